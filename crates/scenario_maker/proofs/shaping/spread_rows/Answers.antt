use Rattle.std.proofs.Common.{◌≡◌, length, map, refl, ◌∙◌, ap, sym, arith, List, ℕ, Vec, Global}
use Rattle.std.specs.List.{range_with_len}
use Rattle.std.proofs.lemmas.List.{map_push}
use Rattle.std.proofs.lemmas.List.FromFn.{map-range_with_len_more}
use Rattle.period_rows.specs.declared.part.CellPart.{CellPart}
use Rattle.search_grid.specs.Moves.{moves_from}
use Rattle.search_model.specs.Grids.{spread_row}
use Rattle.scenario_maker.proofs.Cells.{row_few, taken_few}
use Rattle.scenario_maker.proofs.shaping.spread_rows.Goals as goal

pub spread_row-requires : goal.spread_row-requires
spread_row-requires c =
    let few = row_few c.args.grid.now 5 c.loop-c.c c.requires.few in
    taken_few c.args.part _ c.requires.part (rw c.moves.ensures.value few)

pub loop-c-preserved : goal.loop-c-preserved
loop-c-preserved c =
    let parts : Vec CellPart Global → List CellPart = λ row. row.items in
    let before : map parts c.loop-c.rows.items ≡ map (λ k. spread_row 12 c.args.part k (moves_from c.args.grid.now k)) (range_with_len 0 c.loop-c.c) = c.loop-c.invariant in
    let own = c.in_ok-spread_row.ensures ∙ ap (λ (ms : List ℕ). spread_row 12 c.args.part c.loop-c.c ms) c.moves.ensures.value in
    let next = map-range_with_len_more (λ k. spread_row 12 c.args.part k (moves_from c.args.grid.now k)) 0 c.loop-c.c c.loop-c.c (omega arith) in
    ap (map parts) c.in_ok-push.ensures.items ∙ map_push parts c.loop-c.rows.items c.in_ok-spread_row.field-0 ∙ (rw (before, own) refl) ∙ sym next

pub returns : goal.returns
returns c =
    let all : c.loop-c.c ≡ length c.args.grid.now = omega arith in
    c.loop-c.invariant ∙ ap (λ n. map (λ k. spread_row 12 c.args.part k (moves_from c.args.grid.now k)) (range_with_len 0 n)) all
