use Rattle.std.proofs.Common.{◌++◌}
use Rattle.scenario_text.specs.declared.row_sorts.RowSort.TheVariants.{Moves, Drift}
use Rattle.scenario_text.specs.Printing.{start_rows, sort_rows}
use Rattle.exact_parts.proofs.AppendLemmas.{at_refusal}
use Rattle.exact_parts.proofs.Beginnings.{begins_after}
use Rattle.scenario_text.proofs.LastCalls.{rows_last, begins_last}
use Rattle.scenario_text.proofs.printing.print_body.Goals as goal

pub returns-in_err-print_start-clause-err : goal.returns-in_err-print_start-clause-err
returns-in_err-print_start-clause-err c = at_refusal _ _ c.in_err-print_start.ensures.err

pub returns-in_err-print_sort-clause-err : goal.returns-in_err-print_sort-clause-err
returns-in_err-print_sort-clause-err c = at_refusal _ _ (begins_after _ _ _ _ c.in_ok-print_start.ensures.ok c.in_err-print_sort.ensures.err)

pub returns-clause-ok : goal.returns-clause-ok
returns-clause-ok c =
    let p = c.args.sc.now in
    rows_last c.print_sort-2.result _ _ _ (start_rows p) (sort_rows p Moves ++ sort_rows p Drift) c.in_ok-print_start.ensures.ok (rows_last c.print_sort-2.result _ _ _ (sort_rows p Moves) (sort_rows p Drift) c.in_ok-print_sort.ensures.ok c.print_sort-2.ensures.ok)

pub returns-clause-err : goal.returns-clause-err
returns-clause-err c = begins_last c.print_sort-2.result _ _ _ _ c.in_ok-print_start.ensures.ok (begins_last c.print_sort-2.result _ _ _ _ c.in_ok-print_sort.ensures.ok c.print_sort-2.ensures.err)
