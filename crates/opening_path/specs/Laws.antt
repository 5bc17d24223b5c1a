-- The law of openings.
use Rattle.std.specs.Prelude.{ℕ, ◌≡◌, List}
use Rattle.search_model.specs.Problem.{Problem, IsProblem}
use Rattle.search_model.specs.Opening.{IsOpening}

-- there is an opening, and no second one
abbrev pub OneOpening : Type 0
OneOpening = (p : Problem) → IsProblem p → (q : List ℕ) × IsOpening p q × ((r : List ℕ) → IsOpening p r → r ≡ q)
