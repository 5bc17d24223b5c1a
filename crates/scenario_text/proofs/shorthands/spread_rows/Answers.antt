use Rattle.std.proofs.Common.{◌≡◌, ◌<◌, ◌∙◌, sym, arith, ap, refl, map, length, List, ℕ, Vec, Global}
use Rattle.std.specs.List.{range_with_len}
use Rattle.std.proofs.lemmas.List.{map_push}
use Rattle.period_rows.specs.declared.part.CellPart.{CellPart}
use Rattle.search_grid.specs.Moves.{moves_from}
use Rattle.search_model.specs.Grids.{spread_row}
use Rattle.scenario_text.proofs.Spreads.{spread_next}
use Rattle.scenario_text.proofs.shorthands.spread_rows.Goals as goal

pub loop-c-preserved : goal.loop-c-preserved
loop-c-preserved c =
    let bytes : Vec ℕ Global → List ℕ = λ n. n.items in
    let parts : Vec CellPart Global → List CellPart = λ n. n.items in
    let before : map parts c.loop-c.rows.items ≡ map (λ k. spread_row c.args.denominator c.args.part k (moves_from (map bytes c.args.moves.now) k)) (range_with_len 0 c.loop-c.c) = c.loop-c.invariant in
    let own : c.in_ok-spread_row.field-0.items ≡ spread_row c.args.denominator c.args.part c.loop-c.c c.index-moves-c.result.items =
    c.in_ok-spread_row.ensures ∙ ap (λ (ms : List ℕ). spread_row c.args.denominator c.args.part c.loop-c.c ms) c.deref.ensures.value in
    let within : c.loop-c.c < length c.args.moves.now = omega arith in
    let next = spread_next bytes c.args.denominator c.args.part c.loop-c.c c.args.moves.now c.index-moves-c.result within c.index-moves-c.is in
    ap (map parts) c.in_ok-push.ensures.items ∙ map_push parts c.loop-c.rows.items c.in_ok-spread_row.field-0 ∙ (rw (before, own) refl) ∙ sym next
