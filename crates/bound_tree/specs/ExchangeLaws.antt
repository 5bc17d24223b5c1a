-- What a prefix rules out that stands in for another.
use Rattle.std.specs.Prelude.{ℕ, ◌<◌, List, length}
use Rattle.search_model.specs.Problem.{Problem, IsProblem}
use Rattle.search_model.specs.Order.{IsBest}
use Rattle.bound_tree.specs.Exchanges.{StandsIn}
use Rattle.bound_tree.specs.Accepts.{Extends}

-- no best path begins with a prefix for which another stands in, under whatever standing
abbrev pub ExchangeRulesOut : Type 0
ExchangeRulesOut = (p : Problem) (q r b : List ℕ) → IsProblem p → length q < p.horizon → StandsIn p r q → IsBest p b → ¬ Extends p q b
