use Rattle.std.proofs.Common.{arith}
use Rattle.sweep_table.proofs.Factors.{length-own_rows}
use Rattle.sweep_table.proofs.Views.{plain-seen}
use Rattle.sweep_table.proofs.table.Sweep.positions.Goals as goal

pub returns-in-Plain-clause-value : goal.returns-in-Plain-clause-value
returns-in-Plain-clause-value c = rw (plain-seen _ _ _ c.self.view_is _ c.in-Plain.is) (omega (arith, length-own_rows c.in-Plain.overlook.items))
