use Rattle.std.proofs.Common.{◌∙◌, map, below_more, arith, inr}
use Rattle.std.proofs.Math.ListN.{length-map}
use Rattle.period_rows.specs.Changes.{change_of}
use Rattle.period_rows.specs.Rows.{IsInOrder}
use Rattle.period_rows.proofs.ChangeFaults.{changes_from_right, rows_from_right, first_of_changes, row_of_all, inside-map, named_here, right_here, keys_with_here}
use Rattle.period_rows.proofs.changes.index_of.Goals as goal

pub change_fault-requires : goal.change_fault-requires
change_fault-requires g c = row_of_all c.args.changes.now c.loop-i.i c.index-changes-i.result c.loop-i-test.true c.index-changes-i.is IsInOrder c.requires.in_order

pub returns-in-Some-clause-refusal : goal.returns-in-Some-clause-refusal
returns-in-Some-clause-refusal g c =
    let changes = c.args.changes.now in
    let Right = g.T.RowTest.right c.args.test.now in
    let Wrong = g.T.RowTest.wrong c.args.test.now in
    let inside = inside-map changes c.loop-i.i c.index-changes-i.result c.loop-i-test.true c.index-changes-i.is in
    let named = named_here changes c.loop-i.i c.index-changes-i.result c.loop-i-test.true c.index-changes-i.is
    c.loop-i.index.keys c.loop-i.invariant.index Wrong c.args.last c.args.owners c.in-Some.fault c.in-Some.ensures.some in
    inr (first_of_changes Right Wrong c.requires.apart c.args.last c.args.owners (map change_of changes) c.loop-i.i inside c.loop-i.invariant.right c.in-Some.fault named)

pub loop-i-preserved : goal.loop-i-preserved
loop-i-preserved g c =
    let changes = c.args.changes.now in
    record {
      index = c.in_ok-add_key.ensures ∙ keys_with_here changes c.loop-i.i c.index-changes-i.result c.loop-i-test.true c.index-changes-i.is c.loop-i.index.keys c.loop-i.invariant.index;
      right = below_more _ _ c.loop-i.invariant.right
          (right_here changes c.loop-i.i c.index-changes-i.result c.loop-i-test.true c.index-changes-i.is
          c.loop-i.index.keys c.loop-i.invariant.index (g.T.RowTest.right c.args.test.now) c.args.last c.args.owners c.in_default.ensures.none);
    }

pub returns-clause-changes : goal.returns-clause-changes
returns-clause-changes g c =
    changes_from_right (g.T.RowTest.right c.args.test.now) c.args.last c.args.owners (map change_of c.args.changes.now)
    (λ k inside. let within = rw (length-map c.args.changes.now change_of) at inside in c.loop-i.invariant.right k (omega arith))

pub returns-clause-right : goal.returns-clause-right
returns-clause-right g c =
    rows_from_right (g.T.RowTest.right c.args.test.now) c.args.last c.args.owners (map change_of c.args.changes.now)
    (λ k inside. let within = rw (length-map c.args.changes.now change_of) at inside in c.loop-i.invariant.right k (omega arith))
