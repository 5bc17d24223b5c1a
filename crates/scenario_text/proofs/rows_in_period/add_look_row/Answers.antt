use Rattle.std.proofs.Common.{◌∙◌, rules}
use Rattle.std.proofs.lemmas.List.{map_push}
use Rattle.list_laws.proofs.Mapped.{list_any-map}
use Rattle.scenario_text.specs.State.{state_of}
use Rattle.scenario_text.proofs.EntryRows.{look_in_scanned}
use Rattle.scenario_text.proofs.rows_in_period.add_look_row.Goals as goal

pub returns-in-Err : goal.returns-in-Err
returns-in-Err c = λ t name fields when one form h. look_in_scanned (state_of c.args.draft.now) fields c.args.pairs t name c.args.period c.args.position when one form h ∙ search (rules, list_any-map, map_push)

pub returns-then-has_row_in : goal.returns-then-has_row_in
returns-then-has_row_in c = λ t name fields when one form h. look_in_scanned (state_of c.args.draft.now) fields c.args.pairs t name c.args.period c.args.position when one form h ∙ search (rules, list_any-map, map_push)

pub returns-then-any_above : goal.returns-then-any_above
returns-then-any_above c = λ t name fields when one form h. look_in_scanned (state_of c.args.draft.now) fields c.args.pairs t name c.args.period c.args.position when one form h ∙ search (rules, list_any-map, map_push)

pub returns : goal.returns
returns c = λ t name fields when one form h. look_in_scanned (state_of c.args.draft.now) fields c.args.pairs t name c.args.period c.args.position when one form h ∙ search (rules, list_any-map, map_push)
