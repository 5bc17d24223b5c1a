use Rattle.std.proofs.Common.{◌∷◌, []}
use Rattle.std.specs.Prelude.{codes}
use Rattle.scenario_text.specs.Printing.{chosen_rows}
use Rattle.exact_parts.proofs.AppendLemmas.{at_refusal}
use Rattle.scenario_text.proofs.Plain.{canonical_rows}
use Rattle.scenario_text.proofs.LastCalls.{rows_last, begins_last}
use Rattle.scenario_text.proofs.printing.print_rows.Goals as goal

pub returns-in_err-print_either-clause-err : goal.returns-in_err-print_either-clause-err
returns-in_err-print_either-clause-err c = at_refusal _ _ c.in_err-print_either.ensures.err

pub returns-clause-ok : goal.returns-clause-ok
returns-clause-ok c =
    let p = c.args.sc.now in
    rw (canonical_rows p c.recall_sound.ensures) (rows_last c.push_row.result _ _ _ (chosen_rows p) ((codes "end" ∷ []) ∷ []) c.in_ok-print_either.ensures.ok c.push_row.ensures.ok)

pub returns-clause-err : goal.returns-clause-err
returns-clause-err c = begins_last c.push_row.result _ _ _ _ c.in_ok-print_either.ensures.ok c.push_row.ensures.err
