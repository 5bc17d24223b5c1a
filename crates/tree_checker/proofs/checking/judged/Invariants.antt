use Rattle.std.proofs.Common.{◌≡◌, ◌+◌, ◌≤◌, drop}
use Rattle.tree_checker.specs.Reasons.{first_reason}
use Rattle.tree_checker.specs.Progress.{reason_if, IsUnderWay, IsMadeFor}
use Rattle.tree_checker.proofs.checking.judged.Given as goal

-- what is left of the records leads to the first reason of all
abbrev pub invariant-loop-node : goal.invariant-loop-node
invariant-loop-node l = record {
  reason : reason_if l.sc l.checker (drop l.node-index l.plan.tree) ≡ first_reason l.sc l.plan;
  under_way : IsUnderWay l.sc l.checker;
  line : l.checker.line ≤ 5 + l.node-index;
  made : IsMadeFor l.sc l.checker;
}
