use Rattle.scenario_text.specs.State.{state_of}
use Rattle.scenario_text.specs.declared.line.Line.TheVariants.{Spread}
use Rattle.scenario_text.proofs.FirstFields.{one_taken}
use Rattle.scenario_text.proofs.shorthands.take_spread.Goals as goal

pub returns-in-len1 : goal.returns-in-len1
returns-in-len1 c =
    one_taken (λ f. f.now) Spread c.set_spread.new.draft c.set_spread.result (state_of c.args.draft.now) c.args.fields.now _ c.in-len1.len_at_least c.in-len1.len_below c.set_spread.ensures
