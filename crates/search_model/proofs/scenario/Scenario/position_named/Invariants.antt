use Rattle.std.proofs.Common.{ℕ, ◌<◌, ◌≢◌}
use Rattle.search_model.specs.Problem.{position_name}
use Rattle.search_model.proofs.scenario.Scenario.position_named.Given as goal

abbrev pub invariant-loop-a : goal.invariant-loop-a
invariant-loop-a l = (k : ℕ) → k < l.a → position_name l.self k ≢ l.name
