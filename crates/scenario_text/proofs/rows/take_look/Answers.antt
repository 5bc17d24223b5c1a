use Rattle.text_rows.specs.Fields.{fields_of}
use Rattle.scenario_text.specs.State.{state_of}
use Rattle.scenario_text.specs.declared.line.Line.TheVariants.{Look}
use Rattle.scenario_text.proofs.EntryRows.{row_front}
use Rattle.scenario_text.proofs.rows.take_look.Goals as goal

pub returns-in-len1-up : goal.returns-in-len1-up
returns-in-len1-up c =
    row_front (λ f. f.now) c.take_look_pairs.new.draft c.take_look_pairs.result Look (state_of c.args.draft.now) c.args.fields.now _ (fields_of c.args.text.now) (fields_of c.after_field.result.now) c.in-len1-up.len_at_least c.requires.front c.after_field.ensures c.take_look_pairs.ensures
