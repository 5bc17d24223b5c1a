use Rattle.std.proofs.Common.{ℕ, ◌≡◌, ◌<◌, ◌+◌, ◌-◌, ◌^◌, length, refl, ap, ◌∙◌, arith}
use Rattle.search_model.specs.Legal.{last_of}
use Rattle.search_model.specs.Bounds.{reward_of}
use Rattle.search_model.proofs.LegalLemmas.{last_within}
use Rattle.longest_walk.specs.Sums.{highest_sum}
use Rattle.search_model.specs.Reference.{greatest_sum}
use Rattle.search_model.proofs.RewardSizes.{weights-fit}
use Rattle.mean_bound.proofs.Fitting.{reward-le, highest-le, greatest-le}
use Rattle.mean_bound.proofs.mean.bound_by.Goals as goal

pub fill_near-requires-clause-from : goal.fill_near-requires-clause-from
fill_near-requires-clause-from c =
    let p = c.args.sc.now in
    let sound = c.grid.ensures.sound in
    let here = last_within p.moves sound.grid p.start (omega (arith, sound.start, sound.grid_positions)) c.args.prefix.now c.requires.legal.follows in
    rw (c.last_after-from.ensures.value, c.requires.positions) (omega (arith, here, sound.grid_positions))

pub fill_near-requires-clause-fits : goal.fill_near-requires-clause-fits
fill_near-requires-clause-fits c =
    let p = c.args.sc.now in
    let q = c.args.prefix.now in
    let sound = c.grid.ensures.sound in
    let most = highest-le p sound (length q) (reward_of p q) (reward-le p sound q) c.requires.short in
    let fits : highest_sum p.positions (reward_of p q) (p.horizon - length q) (length q + 1) < 2 ^ 127 = omega (arith, most, weights-fit p sound (p.horizon - length q) (omega arith)) in
    rw (c.requires.positions, c.requires.horizon, c.len.ensures.value, c.grid.ensures.value, c.last_after-from.ensures.value) (reward_of p q, c.fill_rewards.ensures.rewards, fits)

-- the tables are filled by the rewards
pub returns-clause-walked : goal.returns-clause-walked
returns-clause-walked c =
    let p = c.args.sc.now in
    let q = c.args.prefix.now in
    rw (c.requires.positions, c.requires.horizon, c.len.ensures.value, c.grid.ensures.value, c.last_after-from.ensures.value) at c.fill_near.ensures.filled (reward_of p q) c.fill_rewards.ensures.rewards

-- the greatest sum of what the table has is that of the rewards
greatest_now : (c : goal.After-greatest) →
    let p = c.args.sc.now in let q = c.args.prefix.now in
    c.greatest.result ≡ greatest_sum p.moves (reward_of p q) (p.horizon - length q) (length q + 1) (last_of p.start q)
greatest_now c =
    let p = c.args.sc.now in
    let q = c.args.prefix.now in
    let horizon : c.fill_near.new.self.horizon ≡ p.horizon = c.fill_near.ensures.horizon ∙ c.requires.horizon in
    let filled = rw (c.requires.positions, c.requires.horizon, c.len.ensures.value, c.grid.ensures.value, c.last_after-from.ensures.value) at c.fill_near.ensures.filled (reward_of p q) c.fill_rewards.ensures.rewards in
    c.greatest.ensures.near p.moves (reward_of p q) (last_of p.start q) (length q) filled
    ∙ ap (λ (h : ℕ). greatest_sum p.moves (reward_of p q) (h - length q) (length q + 1) (last_of p.start q)) horizon

pub overflow_add-result : goal.overflow_add-result
overflow_add-result c =
    let p = c.args.sc.now in
    let q = c.args.prefix.now in
    let sound = c.grid.ensures.sound in
    let here = last_within p.moves sound.grid p.start (omega (arith, sound.start, sound.grid_positions)) q c.requires.legal.follows in
    let most = greatest-le p sound (length q) (reward_of p q) (reward-le p sound q) c.requires.short (last_of p.start q) here in
    let fits = weights-fit p sound (p.horizon - length q) (omega arith) in
    rw (greatest_now c, c.value-value.ensures p q c.requires.onward) (omega (arith, most, fits))

pub returns-clause-bound : goal.returns-clause-bound
returns-clause-bound c = rw (c.value-value.ensures c.args.sc.now c.args.prefix.now c.requires.onward, greatest_now c) refl
