use Rattle.std.proofs.Common.{◌∙◌, rules}
use Rattle.search_grid.specs.Moves.{moves_from}
use Rattle.std.proofs.lemmas.List.{get_or-map}
use Rattle.scenario_text.specs.State.{state_of}
use Rattle.scenario_text.proofs.ByCellNames.{moves_named}
use Rattle.scenario_text.proofs.rows.set_moves.Goals as goal

pub returns-then-any_none : goal.returns-then-any_none
unfolding moves_from
returns-then-any_none c = λ name fields le one all. moves_named (state_of c.args.draft.now) fields name c.args.cell c.args.moves.now le one all ∙ search rules

pub returns-then-has_double : goal.returns-then-has_double
unfolding moves_from
returns-then-has_double c = λ name fields le one all. moves_named (state_of c.args.draft.now) fields name c.args.cell c.args.moves.now le one all ∙ search rules

pub returns-then-not-is_empty : goal.returns-then-not-is_empty
unfolding moves_from
returns-then-not-is_empty c = λ name fields le one all. moves_named (state_of c.args.draft.now) fields name c.args.cell c.args.moves.now le one all ∙ search (rules, get_or-map)

pub returns-then-is_empty : goal.returns-then-is_empty
unfolding moves_from
returns-then-is_empty c = λ name fields le one all. moves_named (state_of c.args.draft.now) fields name c.args.cell c.args.moves.now le one all ∙ search (rules, get_or-map)

pub returns : goal.returns
unfolding moves_from
returns c = λ name fields le one all. moves_named (state_of c.args.draft.now) fields name c.args.cell c.args.moves.now le one all ∙ search (rules, get_or-map)
