-- Where the bounds that remember looks stand: between what the paths below a prefix find and the mean bound.
use Rattle.std.specs.Prelude.{ℕ, ◌≡◌, ◌+◌, ◌≤◌, List, length}
use Rattle.search_model.specs.Problem.{Problem, IsProblem}
use Rattle.search_model.specs.Legal.{IsLegal}
use Rattle.search_model.specs.Tracks.{value_of}
use Rattle.search_model.specs.Bounds.{mean_of}
use Rattle.search_model.specs.Edge.{edge_of}
use Rattle.search_model.specs.Memory.{remembering_of}
use Rattle.bound_tree.specs.Accepts.{Extends}

-- no path finds more than such a bound of a prefix that it extends, however many looks that remembers
abbrev pub RememberingIsAbove : Type 0
RememberingIsAbove = (p : Problem) (m : ℕ) (q y : List ℕ) → IsProblem p → Extends p q y → value_of p y ≤ remembering_of p m q

-- the bound that remembers more looks is no more
abbrev pub MoreIsLess : Type 0
MoreIsLess = (p : Problem) (m n : ℕ) (q : List ℕ) → IsProblem p → IsLegal p q → m ≤ n → remembering_of p n q ≤ remembering_of p m q

-- the mean bound remembers none, and the edge bound one
abbrev pub RememberingNone : Type 0
RememberingNone = (p : Problem) (q : List ℕ) → remembering_of p 0 q ≡ mean_of p q

abbrev pub RememberingOne : Type 0
RememberingOne = (p : Problem) (q : List ℕ) → remembering_of p 1 q ≡ edge_of p q

-- the bound that remembers all looks is what some path finds
abbrev pub RememberingAll : Type 0
RememberingAll = (p : Problem) (m : ℕ) (q : List ℕ) → IsProblem p → IsLegal p q → p.horizon ≤ length q + m → (y : List ℕ) × Extends p q y × (value_of p y ≡ remembering_of p m q)
