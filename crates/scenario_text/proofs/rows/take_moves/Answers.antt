use Rattle.scenario_text.specs.State.{state_of}
use Rattle.scenario_text.specs.declared.line.Line.TheVariants.{Moves}
use Rattle.scenario_text.proofs.FirstFields.{some_taken}
use Rattle.scenario_text.proofs.rows.take_moves.Goals as goal

pub returns-in-len1-up : goal.returns-in-len1-up
returns-in-len1-up c =
    some_taken (λ f. f.now) Moves c.take_moves_of.new.draft c.take_moves_of.result (state_of c.args.draft.now) c.args.fields.now _ c.in-len1-up.len_at_least c.take_moves_of.ensures
