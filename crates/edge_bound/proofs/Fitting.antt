-- That the bound fits: what looks find, edge rewards, and sums of them.
use Rattle.std.proofs.Common.{ℕ, ◌+◌, ◌*◌, ◌-◌, ◌^◌, ◌<◌, ◌≤◌, ◌≡◌, List, [], ◌∷◌, map, length, arith, Contains}
use Rattle.std.proofs.lemmas.List.Elements.{All-map, All-weaker, All-contains_itself}
use Rattle.std.proofs.Math.Nat.{one-le-mul}
use Rattle.exact_parts.proofs.Widths.{le-times}
use Rattle.search_model.specs.Problem.{Problem, IsProblem}
use Rattle.search_model.specs.Legal.{walks, continuations, last_of}
use Rattle.search_model.specs.Tracks.{whole_weight}
use Rattle.search_model.specs.Bounds.{greatest}
use Rattle.search_model.specs.Edge.{edge_reward_of, sum_moves, edge_sum}
use Rattle.search_model.proofs.Totals.{some_parts}
use Rattle.search_model.proofs.Remembering.{edge_reward-le}
use Rattle.search_model.proofs.RewardSizes.{reward-within}
use Rattle.search_model.proofs.WalkLemmas.{listed_walk}
use Rattle.search_model.proofs.Greatest.{greatest_below}
use Rattle.belief_update.specs.Masses.{mass_of, looks_to}
use Rattle.belief_update.specs.Found.{found_of}
use Rattle.edge_bound.specs.After.{parts_after, loss_of}
use Rattle.edge_bound.specs.Moves.{greatest_moves}
use Rattle.edge_bound.proofs.Discounts.{reward_is, reward_parts, reward_before}
use Rattle.edge_bound.proofs.Through.{taken_of_reward}

-- what bounds each sum of a walk bounds the greatest
pub greatest-within : (f : List ℕ → ℕ) (most : ℕ) (ys : List (List ℕ)) → ((y : List ℕ) → Contains ys y → f y ≤ most) → greatest (map f ys) ≤ most
greatest-within f most ys each = greatest_below most (map f ys) (All-map (λ v. v ≤ most) f ys (All-weaker (Contains ys) (λ y. f y ≤ most) each ys (All-contains_itself ys)))

module _ (p : Problem) (sound : IsProblem p) (q : List ℕ) where
  -- what a look finds after a prefix is within the whole weight
  pub found-within : (t b : ℕ) → length q < t → t ≤ p.horizon → found_of p t b (mass_of p (looks_to t q)) ≤ whole_weight p
  found-within t b later last =
      let parts = some_parts p sound (p.horizon - t) (p.horizon - (length q + 1)) in
      let times = le-times (found_of p t b (mass_of p (looks_to t q))) (p.drift.denominator ^ (p.horizon - t) * p.sweep.denominator ^ (p.horizon - (length q + 1))) parts in
      omega (arith, times, reward_is p sound q t b later last, reward-within p sound q t b (omega (arith, later, last)))

  -- and so it is in the parts of one look more, where there is one before it
  pub found_times-within : (t b : ℕ) → length q + 2 ≤ t → t ≤ p.horizon → found_of p t b (mass_of p (looks_to t q)) * p.sweep.denominator ≤ whole_weight p
  found_times-within t b later last =
      let found = found_of p t b (mass_of p (looks_to t q)) in
      let times = le-times (found * p.sweep.denominator) (parts_after p q t) (some_parts p sound (p.horizon - t) (p.horizon - (length q + 2))) in
      omega (arith, times, reward_parts p sound q t b later last, reward-within p sound q t b (omega (arith, later, last)))

  -- and what the look before finds in the parts of what is to come
  pub found_parts-within : (t a : ℕ) → length q + 2 ≤ t → t ≤ p.horizon → found_of p (t - 1) a (mass_of p (looks_to (t - 1) q)) * parts_after p q t ≤ whole_weight p
  found_parts-within t a later last =
      let d = p.drift.denominator in
      let g = p.sweep.denominator in
      let some : 1 ≤ d * g = one-le-mul (omega (arith, sound.drift.denominator)) (omega (arith, sound.sweep.denominator)) in
      let times = le-times (found_of p (t - 1) a (mass_of p (looks_to (t - 1) q)) * parts_after p q t) (d * g) some in
      omega (arith, times, reward_before p sound q t a later last, reward-within p sound q (t - 1) a (omega (arith, later, last)))

  -- what a look before takes of a reward
  pub taken-within : (t a b : ℕ) → length q + 2 ≤ t → t ≤ p.horizon → loss_of p q t a b ≤ whole_weight p
  taken-within t a b later last = omega (arith, taken_of_reward p q t b sound later last a, reward-within p sound q t b (omega (arith, later, last)))

  -- no edge reward is above the whole weight
  pub edge_reward-within : (t a b : ℕ) → 2 ≤ p.horizon - length q → edge_reward_of p q t a b ≤ whole_weight p
  edge_reward-within t a b some = omega (arith, edge_reward-le p sound q t a b some, reward-within p sound q t b (omega (arith, some)))

  -- nor is a sum of edge rewards above so many times the whole weight
  sum_moves-within : 2 ≤ p.horizon - length q → (t a : ℕ) (y : List ℕ) → sum_moves (edge_reward_of p q) t a y ≤ length y * whole_weight p
  unfolding sum_moves
  sum_moves-within some t a [] = omega arith
  sum_moves-within some t a (b ∷ y) = omega (arith, edge_reward-within t a b some, sum_moves-within some (t + 1) b y)

  pub greatest_moves-within : 2 ≤ p.horizon - length q → (n t a : ℕ) → greatest_moves p.moves (edge_reward_of p q) n t a ≤ n * whole_weight p
  greatest_moves-within some n t a =
      greatest-within (sum_moves (edge_reward_of p q) t a) (n * whole_weight p) (walks p.moves n a) (λ y listed.
      let size = (listed_walk p.moves n a y listed).1 in
      let most = sum_moves-within some t a y in
      rw size at most)

  -- nor is the sum along a continuation
  edge_sum-within : (y : List ℕ) → length y ≡ p.horizon - length q → edge_sum p q y ≤ (p.horizon - length q) * whole_weight p
  unfolding sum_moves
  edge_sum-within [] size = omega arith
  edge_sum-within (a ∷ []) size = rw (← size) (omega (arith, reward-within p sound q (length q + 1) a (omega (arith, size))))
  edge_sum-within (a ∷ b ∷ y) size =
      let first = reward-within p sound q (length q + 1) a (omega (arith, size)) in
      let later = sum_moves-within (omega (arith, size)) (length q + 2) a (b ∷ y) in
      rw (← size) (omega (arith, first, later))

  pub edge_sums-within : greatest (map (edge_sum p q) (continuations p q)) ≤ (p.horizon - length q) * whole_weight p
  edge_sums-within =
      greatest-within (edge_sum p q) ((p.horizon - length q) * whole_weight p) (continuations p q) (λ y listed.
      edge_sum-within y (listed_walk p.moves (p.horizon - length q) (last_of p.start q) y listed).1)
