use Rattle.std.proofs.Common.{ap, sym, ◌∙◌}
use Rattle.sweep_table.specs.LookParts.{LookParts, look_row}
use Rattle.edge_bound.proofs.along.taken.Goals as goal

pub taken_alone-requires-clause-own : goal.taken_alone-requires-clause-own
taken_alone-requires-clause-own c = (_, λ u. ap (λ (s : LookParts). look_row s u c.args.a) (sym c.sweep.ensures.value) ∙ c.in-Some.ensures.row u)
