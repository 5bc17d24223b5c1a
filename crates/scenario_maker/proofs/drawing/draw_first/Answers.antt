use Rattle.std.proofs.Common.{◌≡◌, length, replicate, refl, ◌∙◌, ap, sym, arith, rules}
use Rattle.scenario_maker.specs.Generator.{next, state_after, draws_below}
use Rattle.scenario_maker.proofs.Draws.{state_after-more}
use Rattle.scenario_maker.proofs.Counts.{length-counts_of, counts_of-none, counts_of-draw, counted_few}
use Rattle.scenario_maker.proofs.drawing.draw_first.Goals as goal

pub loop-init : goal.loop-init
unfolding state_after draws_below
loop-init c =
    let zeros : c.in_ok-first.first.items ≡ replicate 25 0 = search rules in
    record { state = refl; first = zeros ∙ counts_of-none 25 }

pub index_mut-requires : goal.index_mut-requires
index_mut-requires c = omega (arith, ap length c.loop.invariant.first, length-counts_of 25 (draws_below (replicate c.loop.counter 25) c.args.generator.now.state))

pub overflow_add-index_mut : goal.overflow_add-index_mut
overflow_add-index_mut c =
    let few = counted_few c.loop.counter c.args.generator.now.state c.draw_below-cell.result c.index_mut.result.now c.loop.first.items c.loop.invariant.first c.draw_below-cell.ensures.below c.index_mut.ensures.value in
    omega (arith, few)

pub loop-preserved : goal.loop-preserved
loop-preserved c = record {
  state = c.draw_below-cell.ensures.state ∙ ap next c.loop.invariant.state ∙ sym (state_after-more c.loop.counter c.args.generator.now.state);
  first =
      counts_of-draw c.loop.counter c.args.generator.now.state c.loop.generator.state c.draw_below-cell.result c.index_mut.result.now c.loop.first.items c.loop.invariant.state c.loop.invariant.first
      c.draw_below-cell.ensures.drawn c.draw_below-cell.ensures.below c.index_mut.ensures.value;
}
