use Rattle.std.proofs.Common.{◌∙◌, sym, ap}
use Rattle.search_grid.specs.Sides.{is_beside}
use Rattle.search_grid.proofs.Beside.{kept_more, passed_over}
use Rattle.search_grid.proofs.sides.cells_beside.Goals as goal
use Rattle.search_grid.proofs.sides.cells_beside.Goals.{then-is_beside+in_ok-push, else-is_beside}

pub loop-d-preserved : goal.loop-d-preserved
loop-d-preserved c = elim c.if-is_beside.branch [
  | then-is_beside+in_ok-push w ↦
      ap (λ row. row.items) w.row-is ∙ w.in_ok-push.ensures.items
      ∙ kept_more (is_beside c.args.columns c.args.c) c.loop-d.d c.loop-d.row.items (sym c.is_beside.ensures ∙ w.if-is_beside.true) c.loop-d.invariant
  | else-is_beside w ↦
      ap (λ row. row.items) w.row-is
      ∙ passed_over (is_beside c.args.columns c.args.c) c.loop-d.d c.loop-d.row.items (sym c.is_beside.ensures ∙ w.if-is_beside.false) c.loop-d.invariant
]
