use Rattle.std.proofs.Common.{ap, sym, ◌∙◌}
use Rattle.sweep_table.specs.LookParts.{LookParts, look_row}
use Rattle.edge_bound.proofs.units.is_own.Goals as goal

pub returns-in-Some : goal.returns-in-Some
returns-in-Some c told = (_, λ u. ap (λ (s : LookParts). look_row s u c.args.b) (sym c.sweep.ensures.value) ∙ c.in-Some.ensures.row u)
