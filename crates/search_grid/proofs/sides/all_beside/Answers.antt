use Rattle.std.proofs.Common.{◌≡◌, ◌*◌, map, ap, ◌∙◌, arith}
use Rattle.std.specs.List.{range_with_len}
use Rattle.std.proofs.lemmas.List.{map_push}
use Rattle.search_grid.specs.Sides.{moves_beside, side_moves}
use Rattle.search_grid.proofs.Beside.{moves_more}
use Rattle.search_grid.proofs.sides.all_beside.Goals as goal

pub loop-c-preserved : goal.loop-c-preserved
loop-c-preserved c =
    ap (map (λ row. row.items)) (c.in_ok-push.ensures.items) ∙ map_push (λ row. row.items) c.loop-c.lists.items c.in_ok-cells_beside.field-0 ∙
    moves_more (moves_beside c.args.rows c.args.columns) c.loop-c.c (map (λ row. row.items) c.loop-c.lists.items) c.in_ok-cells_beside.field-0.items c.loop-c.invariant c.in_ok-cells_beside.ensures

pub returns-clause-made : goal.returns-clause-made
unfolding side_moves
returns-clause-made c = let end : c.loop-c.c ≡ c.args.rows * c.args.columns = omega arith in c.loop-c.invariant ∙ ap (λ n. map (moves_beside c.args.rows c.args.columns) (range_with_len 0 n)) end
