use Rattle.std.proofs.Common.{ℕ, List, ◌∙◌, ap, map, arith}
use Rattle.std.proofs.lemmas.List.{length-map}
use Rattle.scenario_text.specs.Fields.{cell_named}
use Rattle.scenario_text.proofs.rows.take_moves_of.Goals as goal

pub returns : goal.returns
returns c =
    c.set_moves.ensures c.args.name.now (map (λ f. f.now) c.args.moves.now) (omega (arith, c.if-moves-gt64.false, length-map c.args.moves.now (λ f. f.now))) (c.cell_named-cell.ensures.value ∙ ap (λ (names : List (List ℕ)). cell_named names c.args.name.now) c.positions_of-positions.ensures.names)
    (c.deref.ensures.value ∙ c.in_ok-moves.ensures ∙ ap (λ (names : List (List ℕ)). map (cell_named names) (map (λ f. f.now) c.args.moves.now)) c.positions_of-positions.ensures.names)
