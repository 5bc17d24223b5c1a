use Rattle.std.proofs.Common.{[], ◌∷◌}
use Rattle.scenario_text.specs.Canonical.{first_entries}
use Rattle.scenario_text.specs.RowFields.{first_row}
use Rattle.scenario_text.specs.Printing.{start_row}
use Rattle.exact_parts.proofs.AppendLemmas.{at_refusal}
use Rattle.scenario_text.proofs.LastCalls.{rows_last, begins_last}
use Rattle.scenario_text.proofs.printing.print_start.Goals as goal

pub returns-in_err-push_start-clause-err : goal.returns-in_err-push_start-clause-err
returns-in_err-push_start-clause-err c = at_refusal _ _ c.in_err-push_start.ensures.err

pub returns-clause-ok : goal.returns-clause-ok
returns-clause-ok c =
    let p = c.args.sc.now in
    rows_last c.push_first_row.result _ _ _ (start_row p ∷ []) (first_row p.names (first_entries p) ∷ []) c.in_ok-push_start.ensures.ok c.push_first_row.ensures.ok

pub returns-clause-err : goal.returns-clause-err
returns-clause-err c = begins_last c.push_first_row.result _ _ _ _ c.in_ok-push_start.ensures.ok c.push_first_row.ensures.err
