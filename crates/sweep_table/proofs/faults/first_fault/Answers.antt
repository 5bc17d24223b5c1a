use Rattle.std.proofs.Common.{◌<◌, ◌∙◌, sym, ap, map, length, below_more, arith}
use Rattle.std.proofs.Math.ListN.{length-map}
use Rattle.sweep_table.specs.Faults.{HasWrongSizes}
use Rattle.period_rows.proofs.SameRows.{row_at-map}
use Rattle.sweep_table.proofs.Rows.{IsSweep-from_rows}
use Rattle.sweep_table.proofs.NamedFaults.{first_from_row, sizes_from_none}
use Rattle.sweep_table.proofs.faults.first_fault.Goals as goal

pub row_fault-requires : goal.row_fault-requires
row_fault-requires c =
    let row = c.deref.ensures.value ∙ ap (λ row. row.items) c.index-rows-p.is ∙ sym (row_at-map (λ row. row.items) c.args.rows.now c.loop-p.p c.index-rows-p.result c.loop-p-test.true) in
    rw row (c.requires.in_order c.loop-p.p c.loop-p-test.true)

pub returns-in-Some-clause-some : goal.returns-in-Some-clause-some
returns-in-Some-clause-some c =
    let rows = c.args.rows.now in
    let sizes : HasWrongSizes c.args.cells (map (λ row. row.items) rows) → ⊥ = λ wrong. cc (c.has_wrong_sizes.ensures.1 (rw (length-map rows (λ row. row.items)) at wrong)) in
    let row = c.deref.ensures.value ∙ ap (λ row. row.items) c.index-rows-p.is ∙ sym (row_at-map (λ row. row.items) rows c.loop-p.p c.index-rows-p.result c.loop-p-test.true) in
    let inside : c.loop-p.p < length (map (λ row. row.items) rows) = rw (length-map rows (λ row. row.items)) c.loop-p-test.true in
    first_from_row c.args.denominator c.args.cells (map (λ row. row.items) rows) sizes c.loop-p.p c.loop-p.invariant c.in-Some.fault inside (rw (← row) c.in-Some.ensures.some)

pub loop-p-preserved : goal.loop-p-preserved
loop-p-preserved c =
    let row = c.deref.ensures.value ∙ ap (λ row. row.items) c.index-rows-p.is ∙ sym (row_at-map (λ row. row.items) c.args.rows.now c.loop-p.p c.index-rows-p.result c.loop-p-test.true) in
    below_more _ _ c.loop-p.invariant (rw (← row) c.in_default.ensures.none)

pub returns-clause-none : goal.returns-clause-none
returns-clause-none c =
    let rows = c.args.rows.now in
    let sizes : HasWrongSizes c.args.cells (map (λ row. row.items) rows) → ⊥ = λ wrong. cc (c.has_wrong_sizes.ensures.1 (rw (length-map rows (λ row. row.items)) at wrong)) in
    let right = sizes_from_none c.args.cells (map (λ row. row.items) rows) sizes in
    IsSweep-from_rows c.args.denominator c.args.cells (map (λ row. row.items) rows) c.requires.denominator right.0 right.1
    (λ q inside. let below = rw (length-map rows (λ row. row.items)) at inside in c.loop-p.invariant q (omega arith))
