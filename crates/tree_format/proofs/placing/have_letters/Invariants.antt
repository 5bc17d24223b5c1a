use Rattle.std.proofs.Common.{take}
use Rattle.std.specs.Prelude.{All}
use Rattle.tree_format.specs.PlanText.{HasLetter}
use Rattle.tree_format.proofs.placing.have_letters.Given as goal

abbrev pub invariant-loop-node : goal.invariant-loop-node
invariant-loop-node l = All (λ r. HasLetter l.dialect r.kind) (take l.node-index l.records)
