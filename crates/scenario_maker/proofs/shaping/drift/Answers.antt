use Rattle.std.proofs.Common.{◌≤◌, length, ◌∙◌, ap, sym, subst, List, ℕ}
use Rattle.std.specs.Prelude.{All}
use Rattle.period_rows.specs.declared.part.CellPart.{CellPart}
use Rattle.drift_chain.specs.DriftRows.{drift_over, IsDrift}
use Rattle.search_model.specs.Grids.{spread_rows}
use Rattle.scenario_maker.proofs.Cells.{few_moves, drift_right}
use Rattle.scenario_maker.proofs.shaping.drift.Goals as goal

pub spread_rows-requires-clause-few : goal.spread_rows-requires-clause-few
spread_rows-requires-clause-few c =
    let P : List (List ℕ) → Type 0 = λ rows. All (λ row. length row ≤ 5) rows in
    subst P (sym c.requires.grid) few_moves

pub of_right-requires : goal.of_right-requires
of_right-requires c =
    let P : List (List CellPart) → Type 0 = λ rows. IsDrift (drift_over 12 rows) in
    let made = c.in_ok-rows.ensures ∙ ap (spread_rows 12 c.args.part) c.requires.grid in
    subst P (sym made) (drift_right c.args.part c.requires.some c.requires.most)

pub returns : goal.returns
returns c = c.of_right.ensures ∙ ap (drift_over 12) (c.in_ok-rows.ensures ∙ ap (spread_rows 12 c.args.part) c.requires.grid)
