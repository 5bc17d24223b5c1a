use Rattle.std.proofs.Common.{arith}
use Rattle.std.proofs.lemmas.Grind.{common_steps}
use Rattle.scenario_text.proofs.Doubles.{double_at}
use Rattle.scenario_text.proofs.cells.has_double.Goals as goal

pub returns-then-stands_in : goal.returns-then-stands_in
returns-then-stands_in c = let h = double_at _ _ c.loop-i-test.true in grind (arith, common_steps)

pub loop-i-preserved : goal.loop-i-preserved
loop-i-preserved c = let h = double_at _ _ c.loop-i-test.true in grind (arith, common_steps)
