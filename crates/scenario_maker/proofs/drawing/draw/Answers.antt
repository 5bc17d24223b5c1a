use Rattle.std.proofs.Common.{◌+◌, replicate, ◌∙◌, ap, sym}
use Rattle.scenario_maker.specs.Generator.{next, state_after, draw_below, draws_below}
use Rattle.scenario_maker.specs.Made.{counts_of}
use Rattle.scenario_maker.proofs.Draws.{start_is, part_cells_is, spread_is, overlook_is}
use Rattle.scenario_maker.proofs.drawing.draw.Goals as goal

pub returns-clause-start : goal.returns-clause-start
returns-clause-start c = c.draw_below-start.ensures.drawn ∙ sym (start_is c.args.number)

pub returns-clause-first : goal.returns-clause-first
returns-clause-first c =
    c.in_ok-first.ensures.first
    ∙ ap (λ x. counts_of 25 (draws_below (replicate 60 25) x)) c.draw_below-start.ensures.state
    ∙ ap (counts_of 25) (sym (part_cells_is c.args.number))

pub returns-clause-spread : goal.returns-clause-spread
returns-clause-spread c =
    ap (λ d. 1 + d) (c.from-spread.ensures ∙ c.draw_below.ensures.drawn ∙ ap (draw_below 3) (c.in_ok-first.ensures.state ∙ ap (state_after 60) c.draw_below-start.ensures.state))
    ∙ sym (spread_is c.args.number)

pub returns-clause-overlook : goal.returns-clause-overlook
returns-clause-overlook c =
    ap (λ d. 1 + d) (c.from-overlook.ensures ∙ c.draw_below-2.ensures.drawn
    ∙ ap (draw_below 4) (c.draw_below.ensures.state ∙ ap next (c.in_ok-first.ensures.state ∙ ap (state_after 60) c.draw_below-start.ensures.state)))
    ∙ sym (overlook_is c.args.number)
