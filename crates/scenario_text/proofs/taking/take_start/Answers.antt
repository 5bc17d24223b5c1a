use Rattle.scenario_text.specs.State.{state_of}
use Rattle.scenario_text.specs.declared.line.Line.TheVariants.{Start}
use Rattle.scenario_text.proofs.FirstFields.{one_taken}
use Rattle.scenario_text.proofs.taking.take_start.Goals as goal

pub returns-in-len1 : goal.returns-in-len1
returns-in-len1 c =
    one_taken (λ f. f.now) Start c.set_start.new.draft c.set_start.result (state_of c.args.draft.now) c.args.fields.now _ c.in-len1.len_at_least c.in-len1.len_below c.set_start.ensures
