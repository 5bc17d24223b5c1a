use Rattle.std.proofs.Common.{rules, ◌∙◌, refl, sym, ap, IsTrue}
use Rattle.crossbeam_utils.specs.Seq.{cell_view}
use Rattle.search_model.specs.Order.{better as better_lem}
use Rattle.incumbent_board.specs.History.{last_of}
use Rattle.incumbent_board.proofs.Offering.{weighed, weighed_again, told_behind, told_placed}
use Rattle.incumbent_board.proofs.board.Board.offer_at.Goals as goal

pub tries-init : goal.tries-init
tries-init g c = ((refl, refl), weighed c.args.self.now.first c.args.s.now _ _ _ c.requires.seen.1 c.requires.seen.0 c.weigh-held.ensures.weighs)

pub tries-preserved : goal.tries-preserved
tries-preserved g c =
    let k = c.tries.invariant.1 in
    let up : IsTrue (better_lem c.args.s.now (last_of (cell_view c.tries.place).seen)) =
    ap (better_lem c.args.s.now) (sym (c.standing-best.ensures ∙ k.shown.last)) ∙ sym c.better.ensures ∙ search rules in
    ((c.in-Err.ensures.same.0 ∙ c.tries.invariant.0.0, c.in-Err.ensures.same.1 ∙ c.tries.invariant.0.1), weighed_again c.args.self.now.first c.args.s.now (cell_view c.args.place.now) (cell_view c.tries.place) _ _ _ k up c.in-Err.ensures.tried)

pub returns-then-not-better-clause-tells : goal.returns-then-not-better-clause-tells
returns-then-not-better-clause-tells g c =
    told_behind c.args.self.now.first c.args.s.now _ _ _ _ c.tries.invariant.1 c.standing-best.ensures (sym c.if-not-better.ensures)

pub returns-in-Ok-clause-tells : goal.returns-in-Ok-clause-tells
returns-in-Ok-clause-tells g c =
    told_placed c.args.self.now.first c.args.s.now _ _ _ _ _ c.tries.invariant.1 c.standing-best.ensures (sym c.better.ensures ∙ search rules) c.in-Ok.ensures.tried
