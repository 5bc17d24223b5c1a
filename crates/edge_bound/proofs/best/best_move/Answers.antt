use Rattle.std.proofs.Common.{ap, sym, ◌∙◌}
use Rattle.sweep_table.specs.LookParts.{LookParts, look_row}
use Rattle.edge_bound.proofs.best.best_move.Goals as goal

pub best_own-requires-clause-own : goal.best_own-requires-clause-own
best_own-requires-clause-own c = (_, λ u. ap (λ (s : LookParts). look_row s u c.args.a) (sym c.sweep.ensures.value) ∙ c.in-Some.ensures.row u)
