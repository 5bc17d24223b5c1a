use Rattle.std.proofs.Common.{replicate, refl, ap, ◌∙◌, arith}
use Rattle.drift_chain.specs.DriftRows.{drift_over}
use Rattle.search_grid.specs.Sides.{side_moves}
use Rattle.sweep_table.specs.LookParts.{parts_over}
use Rattle.search_model.specs.Grids.{spread_rows}
use Rattle.scenario_maker.proofs.Problems.{spread_within, overlook_within, is_made}
use Rattle.scenario_maker.proofs.making.parts_of.Goals as goal

pub drift-requires-clause-some : goal.drift-requires-clause-some
drift-requires-clause-some c = let part = spread_within c.args.number in omega (arith, c.in_ok-drawn.ensures.spread, part.0)

pub drift-requires-clause-most : goal.drift-requires-clause-most
drift-requires-clause-most c = let part = spread_within c.args.number in omega (arith, c.in_ok-drawn.ensures.spread, part.1)

pub sweep-requires : goal.sweep-requires
sweep-requires c = let part = overlook_within c.args.number in omega (arith, c.in_ok-drawn.ensures.overlook, part.1)

pub returns : goal.returns
returns c =
    let drawn = c.in_ok-drawn.ensures in
    let drift = c.in_ok-drift.ensures ∙ ap (λ n. drift_over 12 (spread_rows 12 n (side_moves 5 5))) drawn.spread in
    let sweep = c.in_ok-sweep.ensures ∙ ap (λ n. parts_over 6 (replicate 25 n)) drawn.overlook in
    is_made c.args.number _ c.in_ok-grid_names.ensures c.in_ok-grid_names-2.ensures refl refl refl drawn.start c.from.ensures drawn.first (c.grid-2.view_is ∙ c.in_ok-grid.ensures) drift sweep
