use Rattle.std.proofs.Common.{◌∙◌, rules}
use Rattle.std.proofs.lemmas.List.{map_push}
use Rattle.list_laws.proofs.Mapped.{list_any-map}
use Rattle.scenario_text.specs.State.{state_of}
use Rattle.scenario_text.proofs.EntryRows.{drift_in_scanned}
use Rattle.scenario_text.proofs.rows_in_period.add_drift_row.Goals as goal

pub returns-in-Err : goal.returns-in-Err
returns-in-Err c = λ t name fields when one form h. drift_in_scanned (state_of c.args.draft.now) fields c.args.pairs t name c.args.period c.args.cell when one form h ∙ search (rules, list_any-map, map_push)

pub returns-then-has_row_in : goal.returns-then-has_row_in
returns-then-has_row_in c = λ t name fields when one form h. drift_in_scanned (state_of c.args.draft.now) fields c.args.pairs t name c.args.period c.args.cell when one form h ∙ search (rules, list_any-map, map_push)

pub returns-then-total_of-from : goal.returns-then-total_of-from
returns-then-total_of-from c = λ t name fields when one form h. drift_in_scanned (state_of c.args.draft.now) fields c.args.pairs t name c.args.period c.args.cell when one form h ∙ search (rules, list_any-map, map_push)

pub returns : goal.returns
returns c = λ t name fields when one form h. drift_in_scanned (state_of c.args.draft.now) fields c.args.pairs t name c.args.period c.args.cell when one form h ∙ search (rules, list_any-map, map_push)
