use Rattle.std.proofs.Common.{◌≡◌, ◌++◌, ◌+◌, ◌-◌, ◌∙◌, ap, arith, ℕ, map}
use Rattle.std.specs.List.{flat_map, range_with_len}
use Rattle.exact_parts.proofs.AppendLemmas.{at_refusal}
use Rattle.exact_parts.proofs.Beginnings.{begins_after}
use Rattle.text_rows.specs.Rows.{text_of}
use Rattle.text_rows.proofs.RowSteps.{rows_in_range}
use Rattle.scenario_text.specs.Canonical.{other_rows}
use Rattle.scenario_text.specs.Printing.{in_force, change_owners, change_last, change_row}
use Rattle.scenario_text.proofs.printing.print_changes.Goals as goal

pub loop-t-preserved : goal.loop-t-preserved
loop-t-preserved c =
    let p = c.args.sc.now in
    let next : c.loop-t.t + 1 - 2 ≡ c.loop-t.t - 2 + 1 = omega arith in
    let text = rows_in_range (change_row p c.args.sort) (other_rows (in_force p c.args.sort) (change_owners p c.args.sort)) 2 (c.loop-t.t - 2) c.loop-t.t _ _ _ (omega arith) c.loop-t.invariant.text c.in_ok-print_period.ensures.ok in
    record { text = rw next text; within = omega (arith, c.behind_last-t-end.ensures.value) }

pub returns-clause-ok : goal.returns-clause-ok
returns-clause-ok c =
    let p = c.args.sc.now in
    let all : c.loop-t.t - 2 ≡ change_last p c.args.sort - 1 = omega (arith, c.behind_last-t-end.ensures.value, c.loop-t.invariant.within) in
    c.loop-t.invariant.text ∙ ap (λ (n : ℕ). c.args.out.now.items ++ text_of (map (change_row p c.args.sort) (flat_map (other_rows (in_force p c.args.sort) (change_owners p c.args.sort)) (range_with_len 2 n)))) all

pub returns-in_err-print_period-clause-err : goal.returns-in_err-print_period-clause-err
returns-in_err-print_period-clause-err c = at_refusal _ _ (begins_after _ _ _ _ c.loop-t.invariant.text c.in_err-print_period.ensures.err)
