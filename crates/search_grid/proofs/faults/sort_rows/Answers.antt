use Rattle.std.proofs.Common.{◌<◌, length, arith}
use Rattle.std.proofs.lemmas.List.Sorted.{IsNonDecreasingBy-from_sort}
use Rattle.search_grid.proofs.MoveRows.{OrderedBefore-none, OrderedBefore-more, HasSameMoves-from_ordered}
use Rattle.search_grid.proofs.faults.sort_rows.Goals as goal

pub loop-row-init : goal.loop-row-init
loop-row-init c = OrderedBefore-none (λ row. row.items) c.args.rows.now

pub loop-row-preserved : goal.loop-row-preserved
loop-row-preserved c =
    let inside : c.loop-row.row-index < length c.loop-row.rows = omega arith in
    OrderedBefore-more (λ row. row.items) c.args.rows.now c.loop-row.rows c.loop-row.row-index c.row-item.result c.sort_unstable.new.self inside
    c.sort_unstable.ensures.permutation (IsNonDecreasingBy-from_sort (λ move. move) _ c.sort_unstable.ensures.sorted) c.loop-row.invariant

pub returns : goal.returns
returns c = record {
  same = HasSameMoves-from_ordered (λ row. row.items) c.args.rows.now c.loop-row.rows c.loop-row.row-index c.loop-row.auto.rows (omega arith) c.loop-row.invariant;
  ascending = λ k inside. c.loop-row.invariant.ascending k (omega arith);
}
