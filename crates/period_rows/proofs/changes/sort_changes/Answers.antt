use Rattle.std.proofs.Common.{◌<◌, length, arith, rules, refl}
use Rattle.std.proofs.lemmas.List.Sorted.{IsNonDecreasingBy-from_sort_by_key}
use Rattle.list_laws.proofs.Passes.{IsPassed-none, IsPassed-more}
use Rattle.period_rows.specs.Changes.{change_of}
use Rattle.period_rows.proofs.RowOrder.{IsPutChange, put_changes-same, put_changes-in_order}
use Rattle.period_rows.proofs.changes.sort_changes.Goals as goal

pub loop-change-init : goal.loop-change-init
loop-change-init c = IsPassed-none _ c.args.changes.now

pub loop-change-preserved : goal.loop-change-preserved
loop-change-preserved c =
    let inside : c.loop-change.change-index < length c.loop-change.changes = omega arith in
    IsPassed-more (λ given now. IsPutChange (change_of given) (change_of now)) c.args.changes.now c.loop-change.changes c.loop-change.change-index c.change-item.result _ inside c.loop-change.auto.changes
    (record {
      period = refl;
      owner = refl;
      row = record {
        same = c.sort_unstable_by_key.ensures.permutation;
        in_order = IsNonDecreasingBy-from_sort_by_key (λ entry. entry.cell) _ c.sort_unstable_by_key.ensures.sorted (λ a r q k. search rules);
      };
    }) c.loop-change.invariant

pub returns : goal.returns
returns c = record {
  same = put_changes-same change_of c.args.changes.now c.loop-change.changes c.loop-change.change-index c.loop-change.auto.changes (omega arith) c.loop-change.invariant;
  in_order = put_changes-in_order change_of c.args.changes.now c.loop-change.changes c.loop-change.change-index c.loop-change.auto.changes (omega arith) c.loop-change.invariant;
}
