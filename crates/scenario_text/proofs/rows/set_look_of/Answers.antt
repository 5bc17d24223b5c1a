use Rattle.std.proofs.Common.{◌∙◌, rules}
use Rattle.std.proofs.lemmas.List.{get_or-map}
use Rattle.scenario_text.specs.State.{state_of}
use Rattle.scenario_text.proofs.EntryRows.{look_scanned}
use Rattle.scenario_text.proofs.rows.set_look_of.Goals as goal

pub returns-in-Err : goal.returns-in-Err
returns-in-Err c = λ name fields one form h. look_scanned (state_of c.args.draft.now) fields c.args.pairs name c.args.position one form h ∙ search (rules, get_or-map)

pub returns-then-is_some : goal.returns-then-is_some
returns-then-is_some c = λ name fields one form h. look_scanned (state_of c.args.draft.now) fields c.args.pairs name c.args.position one form h ∙ search (rules, get_or-map)

pub returns-then-any_above : goal.returns-then-any_above
returns-then-any_above c = λ name fields one form h. look_scanned (state_of c.args.draft.now) fields c.args.pairs name c.args.position one form h ∙ search (rules, get_or-map)

pub returns : goal.returns
returns c = λ name fields one form h. look_scanned (state_of c.args.draft.now) fields c.args.pairs name c.args.position one form h ∙ search (rules, get_or-map)
