use Rattle.std.proofs.Common.{◌≡◌, ◌+◌, ◌-◌, length, slice_index, refl, ◌∙◌, arith}
use Rattle.two_look_bound.specs.Pairs.{two_reward_of}
use Rattle.two_look_bound.proofs.PathSums.{sum_pairs-more, sum_pairs-none}
use Rattle.two_look_bound.proofs.along.sum_later.Goals as goal

pub loop-n-init : goal.loop-n-init
loop-n-init c =
    let q = c.args.given.now.prefix.now in
    let one : length q + 2 - 1 ≡ length q + 1 = omega arith in
    let two : length q + 2 - 2 ≡ length q = omega arith in
    rw c.len-n.ensures.value (record {
      sum = rw (one, two) (omega arith);
      start = omega arith;
      rows = refl;
    })

pub overflow_add-sum : goal.overflow_add-sum
overflow_add-sum c =
    let r = two_reward_of c.args.given.now.sc.now c.args.given.now.prefix.now in
    rw c.two_reward-sum.ensures.reward (omega (arith, sum_pairs-more r c.args.path.now c.loop-n.n c.loop-n.sum _ c.loop-n-test.true (omega (arith, c.loop-n.invariant.start)) c.loop-n.invariant.sum, c.requires.fits))

pub loop-n-preserved : goal.loop-n-preserved
loop-n-preserved c =
    let r = two_reward_of c.args.given.now.sc.now c.args.given.now.prefix.now in
    record {
      sum = rw c.two_reward-sum.ensures.reward (sum_pairs-more r c.args.path.now c.loop-n.n c.loop-n.sum _ c.loop-n-test.true (omega (arith, c.loop-n.invariant.start)) c.loop-n.invariant.sum);
      start = omega (arith, c.loop-n.invariant.start);
      rows = c.two_reward-sum.ensures.rows ∙ c.loop-n.invariant.rows;
    }

pub returns-clause-sum : goal.returns-clause-sum
returns-clause-sum c =
    let n = c.loop-n.n in
    let x = c.args.path.now in
    omega (arith, c.loop-n.invariant.sum, sum_pairs-none (two_reward_of c.args.given.now.sc.now c.args.given.now.prefix.now) (n + 1) (slice_index x (n - 2)) (slice_index x (n - 1)) n x c.loop-n-test.false)
