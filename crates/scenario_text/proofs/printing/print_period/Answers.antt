use Rattle.std.proofs.Common.{◌≡◌, ℕ, ◌++◌, ◌∙◌, ap, map, arith}
use Rattle.std.specs.List.{flat_map, range_with_len}
use Rattle.exact_parts.proofs.AppendLemmas.{at_refusal}
use Rattle.exact_parts.proofs.Beginnings.{begins_after}
use Rattle.text_rows.specs.Rows.{text_of}
use Rattle.text_rows.proofs.RowSteps.{rows_in_range}
use Rattle.scenario_text.specs.Printing.{change_owners, change_at, change_row}
use Rattle.scenario_text.proofs.printing.print_period.Goals as goal

pub loop-c-preserved : goal.loop-c-preserved
loop-c-preserved c = rows_in_range (change_row c.args.sc.now c.args.sort) (change_at c.args.sc.now c.args.sort c.args.t) 0 c.loop-c.c c.loop-c.c _ _ _ (omega arith) c.loop-c.invariant c.in_ok-push_change.ensures.ok

pub returns-in_err-push_change-clause-err : goal.returns-in_err-push_change-clause-err
returns-in_err-push_change-clause-err c = at_refusal _ _ (begins_after _ _ _ _ c.loop-c.invariant c.in_err-push_change.ensures.err)

pub returns-clause-ok : goal.returns-clause-ok
returns-clause-ok c =
    let p = c.args.sc.now in
    let all : c.loop-c.c ≡ change_owners p c.args.sort = omega (arith, c.owners_in-c-end.ensures) in
    c.loop-c.invariant ∙ ap (λ (n : ℕ). c.args.out.now.items ++ text_of (map (change_row p c.args.sort) (flat_map (change_at p c.args.sort c.args.t) (range_with_len 0 n)))) all
