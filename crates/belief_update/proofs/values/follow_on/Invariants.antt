use Rattle.std.proofs.Common.{ℕ, ◌≡◌, ◌+◌, ◌++◌, List, Option, Some, map, take}
use Rattle.belief_update.specs.Belief.{IsBelief}
use Rattle.belief_update.proofs.values.follow_on.Given as goal

abbrev pub invariant-loop-a : goal.invariant-loop-a
invariant-loop-a l = record {
  period : l.belief.period ≡ l.fn.belief.period + l.a-index;
  belief : (looks : List (Option ℕ)) → IsBelief l.sc looks l.fn.belief → IsBelief l.sc (looks ++ map Some (take l.a-index l.later)) l.belief;
}
