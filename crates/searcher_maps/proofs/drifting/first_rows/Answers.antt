use Rattle.std.proofs.Common.{◌≡◌, map, refl, ◌∙◌, ap, sym, arith, List, Vec, Global}
use Rattle.std.specs.List.{range_with_len}
use Rattle.std.proofs.lemmas.List.{map_push}
use Rattle.std.proofs.lemmas.List.FromFn.{map-range_with_len_more}
use Rattle.period_rows.specs.declared.part.CellPart.{CellPart}
use Rattle.drift_chain.specs.DriftRows.{row_of}
use Rattle.searcher_maps.proofs.drifting.first_rows.Goals as goal

pub loop-c-preserved : goal.loop-c-preserved
loop-c-preserved c =
    let parts : Vec CellPart Global → List CellPart = λ row. row.items in
    let row = row_of c.args.drift.now 1 in
    let before : map parts c.loop-c.rows.items ≡ map row (range_with_len 0 c.loop-c.c) = c.loop-c.invariant in
    let own = c.in_ok-from_slice.ensures.items ∙ c.row.ensures.value in
    let next = map-range_with_len_more row 0 c.loop-c.c c.loop-c.c (omega arith) in
    ap (map parts) c.in_ok-push.ensures.items ∙ map_push parts c.loop-c.rows.items c.in_ok-from_slice.field-0 ∙ (rw (before, own) refl) ∙ sym next
