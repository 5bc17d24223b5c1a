-- That the bound fits: what looks take of each other, rewards after two looks, and sums of them.
use Rattle.std.proofs.Common.{ℕ, suc, ◌+◌, ◌*◌, ◌-◌, ◌^◌, ◌<◌, ◌≤◌, ◌≡◌, List, [], ◌∷◌, map, length, ap, ◌∙◌, arith, sum_by, mul-le-mul_left}
use Rattle.std.proofs.Math.Nat.{pow-suc, one-le-mul, mul-le-mul_right}
use Rattle.std.specs.List.{range_with_len}
use Rattle.exact_parts.proofs.Widths.{le-times}
use Rattle.drift_chain.specs.DriftRows.{part_of}
use Rattle.sweep_table.specs.LookParts.{factor_of}
use Rattle.search_model.specs.Problem.{Problem, IsProblem}
use Rattle.search_model.specs.Legal.{walks, continuations, last_of}
use Rattle.search_model.specs.Tracks.{whole_weight}
use Rattle.search_model.specs.Bounds.{greatest}
use Rattle.search_model.specs.Edge.{edge_reward_of}
use Rattle.search_model.proofs.LookRows.{found_in_cells}
use Rattle.search_model.proofs.RewardSizes.{reward-within}
use Rattle.search_model.proofs.WalkLemmas.{listed_walk}
use Rattle.list_laws.proofs.Sums.{sum_by-range-le, sum_by-times}
use Rattle.belief_update.specs.Masses.{mass_of, looks_to}
use Rattle.belief_update.specs.Found.{found_of}
use Rattle.edge_bound.specs.Found.{one_of}
use Rattle.edge_bound.specs.After.{mass_after_look, going_on, through, parts_after, loss_of}
use Rattle.edge_bound.proofs.Discounts.{reward_parts, taken_of_mass, mass_comes}
use Rattle.edge_bound.proofs.Through.{found-same, found-plus, found-times, taken_of_found}
use Rattle.edge_bound.proofs.UnitTable.{part-within}
use Rattle.edge_bound.proofs.Fitting.{greatest-within, found_parts-within, edge_reward-within}
use Rattle.two_look_bound.specs.Pairs.{two_reward_of, sum_pairs, second_sum, two_sum, greatest_pairs, pair_sum, two_and_rest, IsMiddle}
use Rattle.two_look_bound.specs.Taken.{taken_to, two_of, parts_after_two, less_of, skip_of, joint_of}
use Rattle.two_look_bound.proofs.TwoLooks.{found_gone, left_and_found, skip_cells, two_looks}

module _ (p : Problem) (sound : IsProblem p) (q : List ℕ) (s : ℕ) (middle : IsMiddle p q s) where
  -- the parts that come after three looks, by those that come after two
  parts_one_more : parts_after p q (s + 1) ≡ parts_after_two p q s * p.sweep.denominator
  parts_one_more =
      let d = p.drift.denominator in
      let g = p.sweep.denominator in
      let n = p.horizon - (length q + 3) in
      let more : g ^ (p.horizon - (length q + 2)) ≡ g ^ n * g =
      ap (λ (m : ℕ). g ^ m) (let e : p.horizon - (length q + 2) ≡ suc n = omega (arith, middle.later, middle.last) in e) ∙ pow-suc g n in
      rw more (omega arith)

  pub parts_before : parts_after p q s ≡ parts_after_two p q s * (p.drift.denominator * p.sweep.denominator)
  parts_before =
      let d = p.drift.denominator in
      let g = p.sweep.denominator in
      let m = p.horizon - (s + 1) in
      let n = p.horizon - (length q + 3) in
      let steps : d ^ (p.horizon - s) ≡ d ^ m * d =
      ap (λ (k : ℕ). d ^ k) (let e : p.horizon - s ≡ suc m = omega (arith, middle.last) in e) ∙ pow-suc d m in
      let looks : g ^ (p.horizon - (length q + 2)) ≡ g ^ n * g =
      ap (λ (k : ℕ). g ^ k) (let e : p.horizon - (length q + 2) ≡ suc n = omega (arith, middle.later, middle.last) in e) ∙ pow-suc g n in
      rw (steps, looks) (omega arith)

  -- what the look before finds, in the parts that come after three looks, times those of a drift and a look
  pub before-within : (a : ℕ) → found_of p (s - 1) a (mass_of p (looks_to (s - 1) q)) * parts_after_two p q s * (p.drift.denominator * p.sweep.denominator) ≤ whole_weight p
  before-within a =
      let most = found_parts-within p sound q s a middle.later (omega (arith, middle.last)) in
      omega (arith, rw parts_before at most)

  pub found_two-within : (a : ℕ) → found_of p (s - 1) a (mass_of p (looks_to (s - 1) q)) * parts_after_two p q s ≤ whole_weight p
  found_two-within a =
      let some : 1 ≤ p.drift.denominator * p.sweep.denominator = one-le-mul (omega (arith, sound.drift.denominator)) (omega (arith, sound.sweep.denominator)) in
      omega (arith, before-within a, le-times (found_of p (s - 1) a (mass_of p (looks_to (s - 1) q)) * parts_after_two p q s) (p.drift.denominator * p.sweep.denominator) some)

  -- what it takes of the mass of a cell is within what it finds, times the parts of a drift
  pub taken_to-within : (a e : ℕ) → e < p.cells → taken_to p q s a e * parts_after_two p q s ≤ whole_weight p
  taken_to-within a e there =
      let all = range_with_len 0 p.cells in
      let d = p.drift.denominator in
      let g = p.sweep.denominator in
      let parts = parts_after_two p q s in
      let m : ℕ → ℕ = mass_of p (looks_to (s - 1) q) in
      let found : ℕ → ℕ = λ c. m c * (g - factor_of p.sweep (s - 1) a c) in
      let taken : ℕ → ℕ = λ c. m c * part_of p.drift (s - 1) c e * (g - factor_of p.sweep (s - 1) a c) in
      let each = sum_by-range-le p.cells taken (λ c. found c * d) (λ c here. let times = mul-le-mul_left (found c) (part-within p sound (s - 1) c e here there) in omega (arith, times)) in
      let sums : taken_to p q s a e ≤ found_of p (s - 1) a m * d =
      omega (arith, each, sum_by-times found d all, ap (λ (n : ℕ). n * d) (found_in_cells p sound (s - 1) a m), found_in_cells p sound (s - 1) a (going_on p q s e)) in
      let scaled = mul-le-mul_right parts sums in
      let more = le-times (found_of p (s - 1) a m * parts * d) g (omega (arith, sound.sweep.denominator)) in
      omega (arith, scaled, more, before-within a)

  module _ (a : ℕ) where
    -- and within the mass
    taken-mass : (e : ℕ) → taken_to p q s a e ≤ mass_of p (looks_to s q) e * p.sweep.denominator
    taken-mass e = omega (arith, taken_of_mass p q s middle.later sound a e)

    -- so what the next look finds of it fits
    pub less-within : (b : ℕ) → less_of p q s a b ≤ whole_weight p
    less-within b =
        let all = range_with_len 0 p.cells in
        let g = p.sweep.denominator in
        let m : ℕ → ℕ = mass_of p (looks_to s q) in
        let u : ℕ → ℕ = λ e. g - factor_of p.sweep s b e in
        let each = sum_by-range-le p.cells (λ e. taken_to p q s a e * u e) (λ e. m e * u e * g) (λ e _. let times = mul-le-mul_right (u e) (taken-mass e) in omega (arith, times)) in
        let sums : found_of p s b (taken_to p q s a) ≤ found_of p s b m * g =
        omega (arith, each, sum_by-times (λ e. m e * u e) g all, ap (λ (n : ℕ). n * g) (found_in_cells p sound s b m), found_in_cells p sound s b (taken_to p q s a)) in
        let scaled = mul-le-mul_right (parts_after_two p q s) sums in
        let here : s + 1 - 1 ≡ s = omega arith in
        let most = rw (here, parts_one_more) at (found_parts-within p sound q (s + 1) b (omega (arith, middle.later)) middle.last) in
        omega (arith, scaled, most)

    -- times the parts of a drift and of a look that is what the look before takes of the reward of the next one
    pub less_loss : (b : ℕ) → less_of p q s a b * (p.drift.denominator * p.sweep.denominator) ≡ loss_of p q s a b
    less_loss b =
        let g = p.sweep.denominator in
        let left : ℕ → ℕ = mass_after_look p q s a in
        let taken : ℕ → ℕ = taken_to p q s a in
        let mass : ℕ → ℕ = mass_of p (looks_to s q) in
        let each = found-same p s b (λ e. left e + taken e) (λ e. mass e * g) (λ e. taken_of_mass p q s middle.later sound a e) in
        let found : found_of p s b taken ≡ found_of p (s - 1) a (through p q s b) =
        omega (arith, found-plus p s b left taken, each, found-times p s b mass g, taken_of_found p q s b sound middle.later a) in
        rw (found, parts_before) (omega arith)

    module _ (c : ℕ) where
      -- what the look and the one two periods later would find is within the reward of that one
      pub skip-within : skip_of p q s a c ≤ whole_weight p
      skip-within =
          let all = range_with_len 0 p.cells in
          let g = p.sweep.denominator in
          let parts = parts_after_two p q s in
          let m : ℕ → ℕ = mass_of p (looks_to s q) in
          let one : ℕ → ℕ = λ e. one_of p (s + 1) e c in
          let each = sum_by-range-le p.cells (λ e. taken_to p q s a e * one e) (λ e. m e * one e * g) (λ e _. let times = mul-le-mul_right (one e) (taken-mass e) in omega (arith, times)) in
          let sums = sum_by-times (λ e. m e * one e) g all in
          let comes : found_of p (s + 1) c (mass_of p (looks_to (s + 1) q)) ≡ sum_by (λ e. m e * one e) all =
          found-same p (s + 1) c _ (λ d. sum_by (λ e. m e * part_of p.drift s e d) all)
          (λ d. let here : s + 1 - 1 ≡ s = omega arith in rw here at (mass_comes p q (s + 1) (omega (arith, middle.later)) d))
          ∙ found_gone p sound s 0 c m in
          let reward = rw parts_one_more at (reward_parts p sound q (s + 1) c (omega (arith, middle.later)) middle.last) in
          let most = reward-within p sound q (s + 1) c (omega (arith, middle.later, middle.last)) in
          let scaled = mul-le-mul_right (parts * g) each in
          rw (skip_cells p sound q s a middle c) (omega (arith, scaled, ap (λ (n : ℕ). n * (parts * g)) sums, ap (λ (n : ℕ). n * (g * (parts * g))) comes, reward, most))

      -- what all three would find is within that
      pub joint-skip : (b : ℕ) → joint_of p q s a b c ≤ skip_of p q s a c
      joint-skip b =
          let behind = left_and_found p sound s b c (taken_to p q s a) in
          let less : found_of p s b (λ e. taken_to p q s a e * one_of p (s + 1) e c) ≤ found_of p (s - 1) a (λ d. mass_of p (looks_to (s - 1) q) d * two_of p s d c) * p.sweep.denominator =
          rw (skip_cells p sound q s a middle c) (omega (arith, behind)) in
          let scaled = mul-le-mul_right (parts_after_two p q s) less in
          omega (arith, scaled)

      pub joint-within : (b : ℕ) → joint_of p q s a b c ≤ whole_weight p
      joint-within b = omega (arith, joint-skip b, skip-within)

      -- so a look has no greater reward after two looks than after one
      pub two_reward-edge : (b : ℕ) → two_reward_of p q (s + 1) a b c ≤ edge_reward_of p q (s + 1) b c
      two_reward-edge b = omega (arith, joint-skip b, two_looks p sound q s a middle b c)

      pub two_reward-within : (b : ℕ) → two_reward_of p q (s + 1) a b c ≤ whole_weight p
      two_reward-within b = omega (arith, two_reward-edge b, edge_reward-within p sound q (s + 1) b c (omega (arith, middle.later, middle.last)))

-- so with what follows it is no greater either
pub two-below : (p : Problem) → IsProblem p → (q : List ℕ) (s a b c : ℕ) → IsMiddle p q s → two_and_rest p q s a b c ≤ pair_sum p q s b c
two-below p sound q s a b c middle = omega (arith, two_reward-edge p sound q s middle a c b)

module _ (p : Problem) (sound : IsProblem p) (q : List ℕ) where
  -- a sum of rewards after two looks is within so many times the whole weight
  pub sum_pairs-within : (s a b : ℕ) (y : List ℕ) → length q + 2 ≤ s → s + length y ≤ p.horizon → sum_pairs (two_reward_of p q) (s + 1) a b y ≤ length y * whole_weight p
  unfolding sum_pairs
  sum_pairs-within s a b [] later short = omega arith
  sum_pairs-within s a b (c ∷ y) later short =
      let middle : IsMiddle p q s = record { later = later; last = omega (arith, short) } in
      omega (arith, two_reward-within p sound q s middle a c b, sum_pairs-within (s + 1) b c y (omega (arith, later)) (omega (arith, short)))

  pub greatest_pairs-within : (n s a b : ℕ) → length q + 2 ≤ s → s + n ≤ p.horizon → greatest_pairs p.moves (two_reward_of p q) n (s + 1) a b ≤ n * whole_weight p
  greatest_pairs-within n s a b later short =
      greatest-within (sum_pairs (two_reward_of p q) (s + 1) a b) (n * whole_weight p) (walks p.moves n b) (λ y listed.
      let size = (listed_walk p.moves n b y listed).1 in
      let most = sum_pairs-within s a b y later (omega (arith, size, short)) in
      rw size at most)

  -- the sum of a pair
  pub pair_sum-within : (s a b : ℕ) → length q + 1 ≤ s → s + 1 ≤ p.horizon → pair_sum p q s a b ≤ (p.horizon - s) * whole_weight p
  pair_sum-within s a b later last =
      let edge = edge_reward-within p sound q (s + 1) a b (omega (arith, later, last)) in
      let rest = greatest_pairs-within (p.horizon - (s + 1)) (s + 1) a b (omega (arith, later)) (omega (arith, last)) in
      let more : p.horizon - s ≡ suc (p.horizon - (s + 1)) = omega (arith, last) in
      rw more (omega (arith, edge, rest))

  -- and of a continuation
  pub second_sum-within : (a : ℕ) (y : List ℕ) → length q + 1 + length y ≤ p.horizon → second_sum p q a y ≤ length y * whole_weight p
  second_sum-within a [] short = omega arith
  second_sum-within a (b ∷ y) short =
      let edge = edge_reward-within p sound q (length q + 1 + 1) a b (omega (arith, short)) in
      let rest = sum_pairs-within (length q + 1 + 1) a b y (omega arith) (omega (arith, short)) in
      omega (arith, edge, rest)

  two_sum-within : (y : List ℕ) → length q < p.horizon → length q + length y ≤ p.horizon → two_sum p q y ≤ length y * whole_weight p
  two_sum-within [] some short = omega arith
  two_sum-within (a ∷ y) some short = omega (arith, reward-within p sound q (length q + 1) a some, second_sum-within a y (omega (arith, short)))

  pub two_sums-within : length q < p.horizon → greatest (map (two_sum p q) (continuations p q)) ≤ (p.horizon - length q) * whole_weight p
  two_sums-within some =
      greatest-within (two_sum p q) ((p.horizon - length q) * whole_weight p) (continuations p q) (λ y listed.
      let size = (listed_walk p.moves (p.horizon - length q) (last_of p.start q) y listed).1 in
      let most = two_sum-within y some (omega (arith, size, some)) in
      rw size at most)

  -- so is the greatest sum behind a first look
  pub seconds-within : (a : ℕ) → length q < p.horizon → greatest (map (second_sum p q a) (walks p.moves (p.horizon - (length q + 1)) a)) ≤ (p.horizon - (length q + 1)) * whole_weight p
  seconds-within a some =
      greatest-within (second_sum p q a) ((p.horizon - (length q + 1)) * whole_weight p) (walks p.moves (p.horizon - (length q + 1)) a) (λ y listed.
      let size = (listed_walk p.moves (p.horizon - (length q + 1)) a y listed).1 in
      let most = second_sum-within a y (omega (arith, size, some)) in
      rw size at most)
