use Rattle.std.proofs.Common.{ℕ, ◌≡◌, ◌<◌, ◌+◌, ◌-◌, ◌^◌, List, length, refl, ap, ◌∙◌, arith}
use Rattle.search_model.specs.Legal.{last_of}
use Rattle.search_model.specs.Reference.{greatest_sum}
use Rattle.search_model.proofs.LegalLemmas.{last_within}
use Rattle.longest_walk.specs.Sums.{highest_sum}
use Rattle.search_model.proofs.RewardSizes.{weights-fit}
use Rattle.mean_bound.proofs.Fitting.{highest-le, greatest-le}
use Rattle.exchange_bound.specs.Leads.{IsLead, lead_reward}
use Rattle.exchange_bound.proofs.Leads.{lead_reward-le}
use Rattle.exchange_bound.proofs.exchange.bound_by.Goals as goal

pub fill_near-requires-clause-from : goal.fill_near-requires-clause-from
fill_near-requires-clause-from c =
    let p = c.args.sc.now in
    let sound = c.grid.ensures.sound in
    let here = last_within p.moves sound.grid p.start (omega (arith, sound.start, sound.grid_positions)) c.args.prefix.now c.requires.legal.follows in
    rw (c.last_after-from.ensures.value, c.requires.positions) (omega (arith, here, sound.grid_positions))

pub fill_near-requires-clause-period : goal.fill_near-requires-clause-period
fill_near-requires-clause-period c =
    let (r, lead) = c.requires.lead in
    rw (c.requires.horizon, c.len.ensures.value) (omega (arith, lead.later, lead.last))

pub fill_near-requires-clause-fits : goal.fill_near-requires-clause-fits
fill_near-requires-clause-fits c =
    let p = c.args.sc.now in
    let q = c.args.prefix.now in
    let sound = c.grid.ensures.sound in
    let (r, lead) = c.requires.lead in
    let short : length q < p.horizon = omega (arith, lead.later, lead.last) in
    let most = highest-le p sound (length q) (lead_reward p q r) (lead_reward-le p q r sound) short in
    let fits : highest_sum p.positions (lead_reward p q r) (p.horizon - length q) (length q + 1) < 2 ^ 127 = omega (arith, most, weights-fit p sound (p.horizon - length q) (omega arith)) in
    rw (c.requires.positions, c.requires.horizon, c.len.ensures.value, c.grid.ensures.value, c.last_after-from.ensures.value) (lead_reward p q r, c.fill_rewards.ensures.rewards r lead, fits)

-- the greatest sum of what the table has is that of the rewards
greatest_now : (c : goal.After-greatest) (r : List ℕ) →
    let p = c.args.sc.now in let q = c.args.prefix.now in
    IsLead p q r c.args.lead.now → c.greatest.result ≡ greatest_sum p.moves (lead_reward p q r) (p.horizon - length q) (length q + 1) (last_of p.start q)
greatest_now c r lead =
    let p = c.args.sc.now in
    let q = c.args.prefix.now in
    let horizon : c.fill_near.new.self.horizon ≡ p.horizon = c.fill_near.ensures.horizon ∙ c.requires.horizon in
    let filled = rw (c.requires.positions, c.requires.horizon, c.len.ensures.value, c.grid.ensures.value, c.last_after-from.ensures.value) at c.fill_near.ensures.filled (lead_reward p q r) (c.fill_rewards.ensures.rewards r lead) in
    c.greatest.ensures.near p.moves (lead_reward p q r) (last_of p.start q) (length q) filled
    ∙ ap (λ (h : ℕ). greatest_sum p.moves (lead_reward p q r) (h - length q) (length q + 1) (last_of p.start q)) horizon

pub overflow_add-result : goal.overflow_add-result
overflow_add-result c =
    let p = c.args.sc.now in
    let q = c.args.prefix.now in
    let sound = c.grid.ensures.sound in
    let (r, lead) = c.requires.lead in
    let short : length q < p.horizon = omega (arith, lead.later, lead.last) in
    let here = last_within p.moves sound.grid p.start (omega (arith, sound.start, sound.grid_positions)) q c.requires.legal.follows in
    let most = greatest-le p sound (length q) (lead_reward p q r) (lead_reward-le p q r sound) short (last_of p.start q) here in
    let fits = weights-fit p sound (p.horizon - length q) (omega arith) in
    rw (greatest_now c r lead, c.value.ensures p q (c.onward.ensures p q c.requires.mean c.requires.along)) (omega (arith, most, fits))

pub returns-clause-bound : goal.returns-clause-bound
returns-clause-bound c r lead = rw (c.value.ensures c.args.sc.now c.args.prefix.now (c.onward.ensures c.args.sc.now c.args.prefix.now c.requires.mean c.requires.along), greatest_now c r lead) refl
