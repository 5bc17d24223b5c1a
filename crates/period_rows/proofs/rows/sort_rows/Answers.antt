use Rattle.std.proofs.Common.{◌<◌, length, arith, rules}
use Rattle.std.proofs.lemmas.List.Sorted.{IsNonDecreasingBy-from_sort_by_key}
use Rattle.list_laws.proofs.Passes.{IsPassed-none, IsPassed-more}
use Rattle.period_rows.proofs.RowOrder.{IsPut, put-same, put-in_order}
use Rattle.period_rows.proofs.rows.sort_rows.Goals as goal

pub loop-row-init : goal.loop-row-init
loop-row-init c = IsPassed-none _ c.args.rows.now

pub loop-row-preserved : goal.loop-row-preserved
loop-row-preserved c =
    let inside : c.loop-row.row-index < length c.loop-row.rows = omega arith in
    IsPassed-more (λ given now. IsPut given.items now.items) c.args.rows.now c.loop-row.rows c.loop-row.row-index c.row-item.result c.sort_unstable_by_key.new.self inside c.loop-row.auto.rows
    (record {
      same = c.sort_unstable_by_key.ensures.permutation;
      in_order = IsNonDecreasingBy-from_sort_by_key (λ entry. entry.cell) _ c.sort_unstable_by_key.ensures.sorted (λ a r q k. search rules);
    }) c.loop-row.invariant

pub returns : goal.returns
returns c = record {
  same = put-same (λ row. row.items) c.args.rows.now c.loop-row.rows c.loop-row.row-index c.loop-row.auto.rows (omega arith) c.loop-row.invariant;
  in_order = put-in_order (λ row. row.items) c.args.rows.now c.loop-row.rows c.loop-row.row-index c.loop-row.auto.rows (omega arith) c.loop-row.invariant;
}
