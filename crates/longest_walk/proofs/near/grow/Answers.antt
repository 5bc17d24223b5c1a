use Rattle.std.proofs.Common.{◌≡◌, ◌<◌, length, slice_index, ◌∙◌, subst, arith}
use Rattle.std.proofs.lemmas.List.{get_or_default}
use Rattle.search_grid.specs.Moves.{moves_from}
use Rattle.longest_walk.specs.Near.{IsJoined, IsGrown}
use Rattle.longest_walk.proofs.NearSteps.{starts_long, grown_more}
use Rattle.longest_walk.proofs.near.grow.Goals as goal

pub loop-i-preserved : goal.loop-i-preserved
loop-i-preserved c =
    let rows = c.args.grid.now in
    let inside : c.loop-i.i < length c.args.order.now.items = omega (arith, c.loop-i-test.true, c.len-i-end.ensures, c.args.order.now.ok.0) in
    let there : c.loop-i.i < length c.loop-i.order.items = omega (arith, inside, starts_long c.args.order.now.items c.loop-i.order.items c.loop-i.invariant.grown.starts) in
    let at : c.index.result.now ≡ slice_index c.loop-i.order.items c.loop-i.i = c.index.ensures ∙ get_or_default c.loop-i.order.items c.loop-i.i c.index.result.now 0 there in
    let joined : IsJoined c.loop-i.order.items (moves_from rows (slice_index c.loop-i.order.items c.loop-i.i)) c.add_moves.new.order.items =
    rw (c.moves.ensures.value, at) at c.in_ok-add_moves.ensures.joined in
    record {
      grown = grown_more rows c.args.from c.loop-i.i c.args.order.now.items c.loop-i.order.items c.add_moves.new.order.items inside c.loop-i.invariant.grown joined;
      marked = c.in_ok-add_moves.ensures.marked;
      size = c.add_moves.ensures.size ∙ c.loop-i.invariant.size;
    }

pub returns-clause-grown : goal.returns-clause-grown
returns-clause-grown c =
    let rows = c.args.grid.now in
    let all : c.loop-i.i ≡ length c.args.order.now.items = omega (arith, c.loop-i-test.false, c.loop-i.auto.i-end, c.len-i-end.ensures, c.args.order.now.ok.0, c.requires.place) in
    subst (λ n. IsGrown rows c.args.from n c.args.order.now.items c.loop-i.order.items) all c.loop-i.invariant.grown
