use Rattle.std.proofs.Common.{◌∙◌, rules}
use Rattle.scenario_text.specs.State.{state_of}
use Rattle.scenario_text.proofs.EntryRows.{first_scanned}
use Rattle.scenario_text.proofs.taking.set_first.Goals as goal

pub returns-in-Err : goal.returns-in-Err
returns-in-Err c = λ fields form h. first_scanned (state_of c.args.draft.now) fields c.args.pairs form h ∙ search rules

pub returns-then-total_of-from : goal.returns-then-total_of-from
returns-then-total_of-from c = λ fields form h. first_scanned (state_of c.args.draft.now) fields c.args.pairs form h ∙ search rules

pub returns : goal.returns
returns c = λ fields form h. first_scanned (state_of c.args.draft.now) fields c.args.pairs form h ∙ search rules
