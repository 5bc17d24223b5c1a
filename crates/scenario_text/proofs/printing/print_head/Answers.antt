use Rattle.std.proofs.Common.{[], ◌∷◌}
use Rattle.scenario_text.specs.StateRows.{version_row}
use Rattle.scenario_text.specs.Printing.{horizon_row, wholes_row}
use Rattle.exact_parts.proofs.AppendLemmas.{at_refusal}
use Rattle.exact_parts.proofs.Beginnings.{begins_after}
use Rattle.scenario_text.proofs.LastCalls.{rows_last, begins_last}
use Rattle.scenario_text.proofs.printing.print_head.Goals as goal

pub returns-in_err-push_version-clause-err : goal.returns-in_err-push_version-clause-err
returns-in_err-push_version-clause-err c = at_refusal _ _ c.in_err-push_version.ensures.err

pub returns-in_err-push_horizon-clause-err : goal.returns-in_err-push_horizon-clause-err
returns-in_err-push_horizon-clause-err c = at_refusal _ _ (begins_after _ _ _ _ c.in_ok-push_version.ensures.ok c.in_err-push_horizon.ensures.err)

pub returns-clause-ok : goal.returns-clause-ok
returns-clause-ok c =
    let p = c.args.sc.now in
    rows_last c.push_wholes.result _ _ _ (version_row c.args.version ∷ []) (horizon_row p ∷ wholes_row p ∷ []) c.in_ok-push_version.ensures.ok (rows_last c.push_wholes.result _ _ _ (horizon_row p ∷ []) (wholes_row p ∷ []) c.in_ok-push_horizon.ensures.ok c.push_wholes.ensures.ok)

pub returns-clause-err : goal.returns-clause-err
returns-clause-err c = begins_last c.push_wholes.result _ _ _ _ c.in_ok-push_version.ensures.ok (begins_last c.push_wholes.result _ _ _ _ c.in_ok-push_horizon.ensures.ok c.push_wholes.ensures.err)
