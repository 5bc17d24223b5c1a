-- The path that a greedy searcher takes.
use Rattle.std.specs.Prelude.{ℕ, ◌+◌, ◌<◌, ◌≤◌, ◌≡◌, ◌⊎◌, List, [], ◌∷◌, ◌++◌, take, slice_index, Contains}
use Rattle.search_model.specs.Problem.{Problem}
use Rattle.search_model.specs.Legal.{IsPath, moves_after}
use Rattle.search_model.specs.Tracks.{value_of}

-- after its first k positions the path takes the least of the moves that give the longer prefix the greatest value
abbrev pub TakesLeastBest : Problem → List ℕ → ℕ → Type 0
TakesLeastBest p q k =
    (b : ℕ) → Contains (moves_after p (take k q)) b →
    (value_of p (take k q ++ b ∷ []) < value_of p (take (k + 1) q))
    ⊎ ((value_of p (take k q ++ b ∷ []) ≡ value_of p (take (k + 1) q)) × (slice_index q k ≤ b))

-- it does so at each period
pub record IsOpening (p : Problem) (q : List ℕ) : Type 0 where
  pub path : IsPath p q
  pub steps : (k : ℕ) → k < p.horizon → TakesLeastBest p q k
