use Rattle.std.proofs.Common.{◌∙◌, rules}
use Rattle.std.proofs.lemmas.List.{get_or-map}
use Rattle.scenario_text.specs.State.{state_of}
use Rattle.scenario_text.proofs.EntryRows.{drift_scanned}
use Rattle.scenario_text.proofs.rows.set_parts_of.Goals as goal

pub returns-in-Err : goal.returns-in-Err
returns-in-Err c = λ name fields one form h. drift_scanned (state_of c.args.draft.now) fields c.args.pairs name c.args.cell one form h ∙ search rules

pub returns-then-not-is_empty : goal.returns-then-not-is_empty
returns-then-not-is_empty c = λ name fields one form h. drift_scanned (state_of c.args.draft.now) fields c.args.pairs name c.args.cell one form h ∙ search (rules, get_or-map)

pub returns-then-total_of-from : goal.returns-then-total_of-from
returns-then-total_of-from c = λ name fields one form h. drift_scanned (state_of c.args.draft.now) fields c.args.pairs name c.args.cell one form h ∙ search (rules, get_or-map)

pub returns : goal.returns
returns c = λ name fields one form h. drift_scanned (state_of c.args.draft.now) fields c.args.pairs name c.args.cell one form h ∙ search (rules, get_or-map)
