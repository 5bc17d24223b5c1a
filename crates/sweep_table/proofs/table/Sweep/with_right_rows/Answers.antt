use Rattle.sweep_table.specs.LookParts.{cells_of}
use Rattle.sweep_table.proofs.Changed.{ascending_from_right}
use Rattle.sweep_table.proofs.table.Sweep.with_right_rows.Goals as goal

pub returns-in-Ok-clause-ascending : goal.returns-in-Ok-clause-ascending
returns-in-Ok-clause-ascending c = ascending_from_right c.args.self.denominator (cells_of c.args.self) c.in-Ok.sweep.changes c.in-Ok.ensures.right
