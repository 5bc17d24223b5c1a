use Rattle.std.proofs.Common.{◌≡◌, ℕ, ◌++◌, ◌∙◌, ap, map, arith}
use Rattle.std.specs.List.{range_with_len}
use Rattle.exact_parts.proofs.AppendLemmas.{at_refusal}
use Rattle.exact_parts.proofs.Beginnings.{begins_after}
use Rattle.text_rows.specs.Rows.{text_of}
use Rattle.text_rows.proofs.RowSteps.{row_in_range}
use Rattle.scenario_text.specs.Printing.{sort_row, sort_owners}
use Rattle.scenario_text.proofs.printing.print_sort.Goals as goal

pub loop-c-preserved : goal.loop-c-preserved
loop-c-preserved c = row_in_range (sort_row c.args.sc.now c.args.sort) c.loop-c.c _ _ _ c.loop-c.invariant c.in_ok-push_sort_row.ensures.ok

pub returns-in_err-push_sort_row-clause-err : goal.returns-in_err-push_sort_row-clause-err
returns-in_err-push_sort_row-clause-err c = at_refusal _ _ (begins_after _ _ _ _ c.loop-c.invariant c.in_err-push_sort_row.ensures.err)

pub returns-clause-ok : goal.returns-clause-ok
returns-clause-ok c =
    let all : c.loop-c.c ≡ sort_owners c.args.sc.now c.args.sort = omega (arith, c.owners-c-end.ensures) in
    c.loop-c.invariant ∙ ap (λ (n : ℕ). c.args.out.now.items ++ text_of (map (sort_row c.args.sc.now c.args.sort) (range_with_len 0 n))) all
