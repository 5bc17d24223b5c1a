use Rattle.std.proofs.Common.{◌≡◌, ◌≤◌, ◌+◌, ◌-◌, length, arith}
use Rattle.search_model.specs.Bounds.{reward_of}
use Rattle.belief_update.proofs.OnwardRows.{belief_at}
use Rattle.mean_bound.proofs.Found.{found_is}
use Rattle.mean_bound.proofs.Fitting.{found_fits}
use Rattle.mean_bound.proofs.rewards.fill_rewards.Goals as goal

pub fill_period-requires-clause-cells : goal.fill_period-requires-clause-cells
fill_period-requires-clause-cells c =
    let p = c.args.sc.now in
    let q = c.args.prefix.now in
    let after : length q ≤ c.loop-t.t = omega (arith, c.len-t.ensures.value, c.loop-t.auto.t) in
    let last : c.loop-t.t + 1 ≤ p.horizon = omega (arith, c.loop-t-test.true, c.horizon-t-end.ensures.value) in
    let belief = belief_at p q c.args.onward.now (c.loop-t.t + 1) c.at.result.now c.requires.onward (omega (arith, after)) last c.at.ensures in
    rw c.masses.ensures belief.cells

pub fill_period-requires-clause-fits : goal.fill_period-requires-clause-fits
fill_period-requires-clause-fits c a here =
    let p = c.args.sc.now in
    let q = c.args.prefix.now in
    let after : length q ≤ c.loop-t.t = omega (arith, c.len-t.ensures.value, c.loop-t.auto.t) in
    let last : c.loop-t.t + 1 ≤ p.horizon = omega (arith, c.loop-t-test.true, c.horizon-t-end.ensures.value) in
    let belief = belief_at p q c.args.onward.now (c.loop-t.t + 1) c.at.result.now c.requires.onward (omega (arith, after)) last c.at.ensures in
    rw c.masses.ensures (found_fits p c.horizon-t-end.ensures.sound q (c.loop-t.t + 1) a c.at.result.now (omega (arith, after)) last belief)

pub loop-t-preserved : goal.loop-t-preserved
loop-t-preserved c =
    let p = c.args.sc.now in
    let q = c.args.prefix.now in
    let t = c.loop-t.t in
    let after : length q ≤ t = omega (arith, c.len-t.ensures.value, c.loop-t.auto.t) in
    let last : t + 1 ≤ p.horizon = omega (arith, c.loop-t-test.true, c.horizon-t-end.ensures.value) in
    let before : t + 1 - 1 ≡ t = omega arith in
    let belief = belief_at p q c.args.onward.now (t + 1) c.at.result.now c.requires.onward (omega (arith, after)) last c.at.ensures in
    c.fill_period.ensures (reward_of p q)
    (λ a here. rw c.masses.ensures (found_is p c.horizon-t-end.ensures.sound q (t + 1) a c.at.result.now (omega (arith, after)) last belief))
    (rw before c.loop-t.invariant)
