use Rattle.std.proofs.Common.{◌∙◌, sym, ap, map, length, below_more, arith}
use Rattle.std.proofs.Math.ListN.{length-map}
use Rattle.drift_chain.proofs.Drifts.{IsDrift-from_rows}
use Rattle.period_rows.proofs.SameRows.{row_at-map}
use Rattle.drift_chain.proofs.NamedFaults.{first_from_rows}
use Rattle.drift_chain.proofs.faults.first_fault.Goals as goal

pub row_fault-requires-clause-in_order : goal.row_fault-requires-clause-in_order
row_fault-requires-clause-in_order c =
    let row = c.deref.ensures.value ∙ ap (λ row. row.items) c.index-rows-c.is ∙ sym (row_at-map (λ row. row.items) c.args.rows.now c.loop-c.c c.index-rows-c.result c.loop-c-test.true) in
    rw row (c.requires.in_order c.loop-c.c c.loop-c-test.true)

pub returns-in-Some-clause-some : goal.returns-in-Some-clause-some
returns-in-Some-clause-some c =
    let rows = c.args.rows.now in
    let row = c.deref.ensures.value ∙ ap (λ row. row.items) c.index-rows-c.is ∙ sym (row_at-map (λ row. row.items) c.args.rows.now c.loop-c.c c.index-rows-c.result c.loop-c-test.true) in
    first_from_rows c.args.denominator (map (λ row. row.items) rows) (length rows) c.loop-c.c (length-map rows (λ row. row.items)) c.loop-c.invariant c.in-Some.fault c.loop-c-test.true (rw (← row) c.in-Some.ensures.some)

pub loop-c-preserved : goal.loop-c-preserved
loop-c-preserved c =
    let row = c.deref.ensures.value ∙ ap (λ row. row.items) c.index-rows-c.is ∙ sym (row_at-map (λ row. row.items) c.args.rows.now c.loop-c.c c.index-rows-c.result c.loop-c-test.true) in
    below_more _ _ c.loop-c.invariant (rw (← row) c.in_default.ensures.none)

pub returns-clause-none : goal.returns-clause-none
returns-clause-none c =
    let rows = c.args.rows.now in
    IsDrift-from_rows c.args.denominator (map (λ row. row.items) rows) (length rows) (sym (length-map rows (λ row. row.items))) c.requires.denominator c.requires.count
    (λ k inside. c.loop-c.invariant k (omega arith))
