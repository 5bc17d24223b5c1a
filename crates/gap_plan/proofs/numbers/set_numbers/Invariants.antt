use Rattle.ceiling_bound.specs.Ceilings.{AreCeilingsFor}
use Rattle.gap_plan.proofs.Numbered.{IsPassed}
use Rattle.gap_plan.proofs.numbers.set_numbers.Given as goal

-- the nodes so far have their numbers
abbrev pub invariant-loop-node : goal.invariant-loop-node
invariant-loop-node l = record {
  made : AreCeilingsFor l.sc l.ceilings;
  passed : IsPassed l.numbers l.sc l.fn.nodes l.value l.node-index l.nodes l.most;
}
