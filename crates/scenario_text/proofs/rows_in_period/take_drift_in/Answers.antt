use Rattle.text_rows.specs.Fields.{fields_of}
use Rattle.scenario_text.specs.State.{state_of}
use Rattle.scenario_text.specs.declared.line.Line.TheVariants.{DriftIn}
use Rattle.scenario_text.proofs.EntryRows.{row_front_two}
use Rattle.scenario_text.proofs.rows_in_period.take_drift_in.Goals as goal

pub returns-in-len2-up : goal.returns-in-len2-up
returns-in-len2-up c =
    row_front_two (λ f. f.now) c.take_drift_row.new.draft c.take_drift_row.result DriftIn (state_of c.args.draft.now) c.args.fields.now _ _ (fields_of c.args.text.now) _ _ c.in-len2-up.len_at_least c.requires.front c.after_field.ensures c.after_field-in-len2-up.ensures c.take_drift_row.ensures
