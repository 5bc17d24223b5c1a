use Rattle.std.proofs.Common.{◌++◌}
use Rattle.scenario_text.specs.declared.row_sorts.RowSort.TheVariants.{Looks}
use Rattle.scenario_text.specs.declared.row_sorts.ChangeSort.TheVariants.{DriftIn, LookIn}
use Rattle.scenario_text.specs.Printing.{change_rows, sort_rows}
use Rattle.exact_parts.proofs.AppendLemmas.{at_refusal}
use Rattle.exact_parts.proofs.Beginnings.{begins_after}
use Rattle.scenario_text.proofs.LastCalls.{rows_last, begins_last}
use Rattle.scenario_text.proofs.printing.print_later.Goals as goal

pub returns-in_err-print_changes-clause-err : goal.returns-in_err-print_changes-clause-err
returns-in_err-print_changes-clause-err c = at_refusal _ _ c.in_err-print_changes.ensures.err

pub returns-in_err-print_sort-clause-err : goal.returns-in_err-print_sort-clause-err
returns-in_err-print_sort-clause-err c = at_refusal _ _ (begins_after _ _ _ _ c.in_ok-print_changes.ensures.ok c.in_err-print_sort.ensures.err)

pub returns-clause-ok : goal.returns-clause-ok
returns-clause-ok c =
    let p = c.args.sc.now in
    rows_last c.print_changes-2.result _ _ _ (change_rows p DriftIn) (sort_rows p Looks ++ change_rows p LookIn) c.in_ok-print_changes.ensures.ok (rows_last c.print_changes-2.result _ _ _ (sort_rows p Looks) (change_rows p LookIn) c.in_ok-print_sort.ensures.ok c.print_changes-2.ensures.ok)

pub returns-clause-err : goal.returns-clause-err
returns-clause-err c = begins_last c.print_changes-2.result _ _ _ _ c.in_ok-print_changes.ensures.ok (begins_last c.print_changes-2.result _ _ _ _ c.in_ok-print_sort.ensures.ok c.print_changes-2.ensures.err)
