-- Where the searcher may go: legal prefixes, paths, continuations.
use Rattle.std.specs.Prelude.{ℕ, zero, suc, ◌≡◌, ◌≤◌, ◌-◌, List, [], ◌∷◌, map, length, Contains}
use Rattle.std.specs.List.{flat_map}
use Rattle.search_grid.specs.Moves.{moves_from}
use Rattle.search_model.specs.Problem.{Problem}

-- the last position of a prefix, or the place where it began
abbrev pub last_of : ℕ → List ℕ → ℕ
last_of a [] = a
last_of a (b ∷ q) = last_of b q

-- the moves after a prefix: those of its last position, or of the start
abbrev pub moves_after : Problem → List ℕ → List ℕ
moves_after p q = moves_from p.moves (last_of p.start q)

-- each position is a move of the one before, the first a move of a
abbrev pub Follows : List (List ℕ) → ℕ → List ℕ → Type 0
Follows rows a [] = Unit {0}
Follows rows a (b ∷ q) = Contains (moves_from rows a) b × Follows rows b q

-- a legal prefix follows the moves from the start and isn't longer than the horizon
pub record IsLegal (p : Problem) (q : List ℕ) : Type 0 where
  pub follows : Follows p.moves p.start q
  pub short : length q ≤ p.horizon

-- a path is a legal prefix as long as the horizon
pub record IsPath (p : Problem) (q : List ℕ) : Type 0 where
  pub follows : Follows p.moves p.start q
  pub whole : length q ≡ p.horizon

-- all lists of n positions that follow the moves from a
unfoldable pub walks : List (List ℕ) → ℕ → ℕ → List (List ℕ)
walks rows zero a = [] ∷ []
walks rows (suc n) a = flat_map (λ b. map (λ y. b ∷ y) (walks rows n b)) (moves_from rows a)

-- all continuations of a prefix to a path
abbrev pub continuations : Problem → List ℕ → List (List ℕ)
continuations p q = walks p.moves (p.horizon - length q) (last_of p.start q)
