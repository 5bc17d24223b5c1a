-- Pairs of paths, and the paths of the product problem that say where both are.
use Rattle.std.specs.Prelude.{ℕ, ◌≡◌, ◌≤◌, List, [], ◌∷◌, map, length}
use Rattle.search_model.specs.Problem.{Problem}
use Rattle.search_model.specs.Legal.{Follows, IsPath}
use Rattle.search_model.specs.Tracks.{value_of}
use Rattle.search_model.specs.Order.{IsBest}
use Rattle.duo_search.specs.Product.{pair_value, both_at, first_at, second_at}

-- a path of a searcher who starts at a given position
pub record IsPathFrom (p : Problem) (start : ℕ) (y : List ℕ) : Type 0 where
  pub follows : Follows p.moves start y
  pub whole : length y ≡ p.horizon

-- two lists of positions as one, period by period
unfoldable pub paired : ℕ → List ℕ → List ℕ → List ℕ
paired positions [] b = []
paired positions (i ∷ a) [] = []
paired positions (i ∷ a) (j ∷ b) = both_at positions i j ∷ paired positions a b

-- where the first is, period by period, and where the second is
abbrev pub firsts_of : ℕ → List ℕ → List ℕ
firsts_of positions z = map (first_at positions) z

abbrev pub seconds_of : ℕ → List ℕ → List ℕ
seconds_of positions z = map (second_at positions) z

-- pairs of a path from the start and one from the second's position, and paths of q, correspond one to one
pub record AreOneToOne (p : Problem) (second : ℕ) (q : Problem) : Type 0 where
  pub path : (a b : List ℕ) → IsPathFrom p p.start a → IsPathFrom p second b → IsPath q (paired p.positions a b)
  pub says : (a b : List ℕ) → IsPathFrom p p.start a → IsPathFrom p second b → (firsts_of p.positions (paired p.positions a b) ≡ a) × (seconds_of p.positions (paired p.positions a b) ≡ b)
  pub pair : (z : List ℕ) → IsPath q z → IsPathFrom p p.start (firsts_of p.positions z) × IsPathFrom p second (seconds_of p.positions z)
  pub made : (z : List ℕ) → IsPath q z → paired p.positions (firsts_of p.positions z) (seconds_of p.positions z) ≡ z

-- the value of a path of q is what its pair of paths finds together
abbrev pub FindsAsPair : Problem → Problem → Type 0
FindsAsPair p q = (z : List ℕ) → IsPath q z → value_of q z ≡ pair_value p (firsts_of p.positions z) (seconds_of p.positions z)

-- no pair of paths finds more together than that of the best path of q
abbrev pub IsBestOfPairs : Problem → ℕ → Problem → Type 0
IsBestOfPairs p second q =
    (z : List ℕ) → IsBest q z → (a b : List ℕ) → IsPathFrom p p.start a → IsPathFrom p second b →
    pair_value p a b ≤ pair_value p (firsts_of p.positions z) (seconds_of p.positions z)
