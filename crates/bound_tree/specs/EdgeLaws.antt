-- Where the edge bound stands: between what the paths below a prefix find and the prefix's mean bound.
use Rattle.std.specs.Prelude.{ℕ, ◌<◌, ◌≤◌, List, length}
use Rattle.search_model.specs.Problem.{Problem, IsProblem}
use Rattle.search_model.specs.Legal.{IsLegal}
use Rattle.search_model.specs.Tracks.{value_of}
use Rattle.search_model.specs.Bounds.{mean_of}
use Rattle.search_model.specs.Edge.{edge_of}
use Rattle.bound_tree.specs.Accepts.{Extends}

-- no path finds more than the edge bound of a prefix that it extends
abbrev pub EdgeIsAbove : Type 0
EdgeIsAbove = (p : Problem) (q y : List ℕ) → IsProblem p → IsLegal p q → length q < p.horizon → Extends p q y → value_of p y ≤ edge_of p q

-- the edge bound of a prefix is no more than its mean bound
abbrev pub EdgeIsWithinMean : Type 0
EdgeIsWithinMean = (p : Problem) (q : List ℕ) → IsProblem p → IsLegal p q → length q < p.horizon → edge_of p q ≤ mean_of p q
