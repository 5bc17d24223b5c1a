use Rattle.std.proofs.Common.{◌≡◌, ◌+◌, ◌≤◌, drop}
use Rattle.tree_checker.specs.GapReasons.{gap_reason}
use Rattle.tree_checker.specs.Progress.{gap_reason_if, IsUnderWay, IsMadeFor}
use Rattle.tree_checker.proofs.checking.gap_judged.Given as goal

-- what is left of the nodes leads to the first reason of all
abbrev pub invariant-loop-node : goal.invariant-loop-node
invariant-loop-node l = record {
  reason : gap_reason_if l.sc l.checker l.plan.ceiling (drop l.node-index l.plan.nodes) ≡ gap_reason l.sc l.plan;
  under_way : IsUnderWay l.sc l.checker;
  line : l.checker.line ≤ 6 + l.node-index;
  made : IsMadeFor l.sc l.checker;
}
