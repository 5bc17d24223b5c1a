use Rattle.std.proofs.Common.{◌++◌}
use Rattle.scenario_text.specs.declared.draft.TextVersion.TheVariants.{One}
use Rattle.scenario_text.specs.declared.row_sorts.RowSort.TheVariants.{Overlook}
use Rattle.scenario_text.specs.Printing.{front_rows, sort_rows, body_rows}
use Rattle.exact_parts.proofs.AppendLemmas.{at_refusal}
use Rattle.exact_parts.proofs.Beginnings.{begins_after}
use Rattle.scenario_text.proofs.LastCalls.{rows_last, begins_last}
use Rattle.scenario_text.proofs.printing.print_plain.Goals as goal

pub returns-in_err-print_front-clause-err : goal.returns-in_err-print_front-clause-err
returns-in_err-print_front-clause-err c = at_refusal _ _ c.in_err-print_front.ensures.err

pub returns-in_err-print_body-clause-err : goal.returns-in_err-print_body-clause-err
returns-in_err-print_body-clause-err c = at_refusal _ _ (begins_after _ _ _ _ c.in_ok-print_front.ensures.ok c.in_err-print_body.ensures.err)

pub returns-clause-ok : goal.returns-clause-ok
returns-clause-ok c =
    let p = c.args.sc.now in
    rows_last c.print_sort.result _ _ _ (front_rows One p) (body_rows p ++ sort_rows p Overlook) c.in_ok-print_front.ensures.ok (rows_last c.print_sort.result _ _ _ (body_rows p) (sort_rows p Overlook) c.in_ok-print_body.ensures.ok c.print_sort.ensures.ok)

pub returns-clause-err : goal.returns-clause-err
returns-clause-err c = begins_last c.print_sort.result _ _ _ _ c.in_ok-print_front.ensures.ok (begins_last c.print_sort.result _ _ _ _ c.in_ok-print_body.ensures.ok c.print_sort.ensures.err)
