use Rattle.std.proofs.Common.{refl}
use Rattle.edge_bound.proofs.rows.fill_row.Goals as goal

pub best_move-requires-clause-parts : goal.best_move-requires-clause-parts
best_move-requires-clause-parts c = rw (c.later_parts-parts.ensures, c.len.ensures.value) refl
