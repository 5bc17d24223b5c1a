use Rattle.std.proofs.Common.{◌∙◌, ◌∷◌, [], map, sym, ap, List, Vec, Global}
use Rattle.std.specs.List.{range_with_len}
use Rattle.std.proofs.lemmas.List.{map-append}
use Rattle.list_laws.proofs.Ranges.{range_more}
use Rattle.period_rows.specs.declared.part.CellPart.{CellPart}
use Rattle.sweep_table.specs.LookParts.{own_row}
use Rattle.sweep_table.proofs.footprints.own_rows.Goals as goal

pub loop-cell-preserved : goal.loop-cell-preserved
loop-cell-preserved c =
    let overlook = c.args.overlook.now in
    let stored = ap (map (λ (row : Vec CellPart Global). row.items)) c.in_ok-push.ensures.items ∙ map-append (λ (row : Vec CellPart Global). row.items) c.loop-cell.rows.items (c.in_ok-row_of_one.field-0 ∷ []) in
    let here = ap (λ (row : List CellPart). row ∷ []) c.in_ok-row_of_one.ensures in
    let range = ap (map (own_row overlook)) (range_more c.loop-cell.cell) ∙ map-append (own_row overlook) (range_with_len 0 c.loop-cell.cell) (c.loop-cell.cell ∷ []) in
    let before = c.loop-cell.invariant in
    stored ∙ rw (before, here) (sym range)
