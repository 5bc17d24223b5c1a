use Rattle.scenario_text.specs.declared.row_sorts.RowSort.TheVariants.{Cells}
use Rattle.scenario_text.specs.Printing.{head_rows, sort_rows}
use Rattle.exact_parts.proofs.AppendLemmas.{at_refusal}
use Rattle.scenario_text.proofs.LastCalls.{rows_last, begins_last}
use Rattle.scenario_text.proofs.printing.print_front.Goals as goal

pub returns-in_err-print_head-clause-err : goal.returns-in_err-print_head-clause-err
returns-in_err-print_head-clause-err c = at_refusal _ _ c.in_err-print_head.ensures.err

pub returns-clause-ok : goal.returns-clause-ok
returns-clause-ok c =
    let p = c.args.sc.now in
    rows_last c.print_sort.result _ _ _ (head_rows c.args.version p) (sort_rows p Cells) c.in_ok-print_head.ensures.ok c.print_sort.ensures.ok

pub returns-clause-err : goal.returns-clause-err
returns-clause-err c = begins_last c.print_sort.result _ _ _ _ c.in_ok-print_head.ensures.ok c.print_sort.ensures.err
