-- The reward of a look after two others, by masses: what the first of the two takes of the edge reward after the second.
use Rattle.std.proofs.Common.{ℕ, suc, ◌+◌, ◌*◌, ◌-◌, ◌^◌, ◌≤◌, ◌≡◌, List, [], ◌∷◌, ◌++◌, Option, Some, None, map, length, refl, sym, ap, ◌∙◌, arith, sum_by, length-append}
use Rattle.std.proofs.Math.Nat.{pow-suc}
use Rattle.std.specs.List.{range_with_len}
use Rattle.drift_chain.specs.DriftRows.{part_of}
use Rattle.sweep_table.specs.LookParts.{factor_of}
use Rattle.sweep_table.proofs.Factors.{factor_of-le}
use Rattle.search_model.specs.Problem.{Problem, IsProblem}
use Rattle.search_model.specs.Tracks.{weight_of}
use Rattle.search_model.specs.Bounds.{factors_along, cell_in}
use Rattle.search_model.specs.Edge.{edge_reward_of}
use Rattle.search_model.specs.Memory.{reward_after, factors_before}
use Rattle.list_laws.proofs.Sums.{sum_by-same, sum_by-times, sum_by-plus}
use Rattle.search_model.proofs.LookRows.{found_in_cells}
use Rattle.search_model.proofs.TrackSums.{sum_tracks-same}
use Rattle.belief_update.specs.Masses.{looked_along, mass_of, looks_to}
use Rattle.belief_update.specs.Found.{found_of}
use Rattle.belief_update.proofs.TrackSteps.{looked_along-nones}
use Rattle.belief_update.proofs.MassSteps.{mass_of-look, mass_of-drift}
use Rattle.belief_update.proofs.Looks.{length-looks_to, looks_to-drift}
use Rattle.belief_update.proofs.Rewards.{factors_along-looked, found_by_masses}
use Rattle.edge_bound.specs.Found.{one_of}
use Rattle.edge_bound.specs.After.{mass_after_look, going_on}
use Rattle.edge_bound.proofs.Discounts.{looked_along-at, edge_reward_is, taken_of_mass}
use Rattle.edge_bound.proofs.Through.{found-same, found-times, found-sum}
use Rattle.two_look_bound.specs.Pairs.{two_reward_of, IsMiddle}
use Rattle.two_look_bound.specs.Taken.{two_of, taken_to, parts_after_two, skip_of, joint_of}

module _ (p : Problem) (sound : IsProblem p) (s b c : ℕ) where
  -- what a look from c finds of masses that go on from the period before
  pub found_gone : (w : ℕ → ℕ) → found_of p (s + 1) c (λ d. sum_by (λ e. w e * part_of p.drift s e d) (range_with_len 0 p.cells)) ≡ sum_by (λ e. w e * one_of p (s + 1) e c) (range_with_len 0 p.cells)
  found_gone w =
      let all = range_with_len 0 p.cells in
      let back : s + 1 - 1 ≡ s = omega arith in
      found-sum p (s + 1) c (λ e d. w e * part_of p.drift s e d) all
      ∙ sum_by-same _ _ all (λ e.
      found-same p (s + 1) c (λ d. w e * part_of p.drift s e d) (λ d. part_of p.drift s e d * w e) (λ d. omega arith)
      ∙ found-times p (s + 1) c (part_of p.drift s e) (w e)
      ∙ rw back (omega arith))

  -- what it finds after a look from b in the period before, by the masses without that one
  pub found_after : (front : List (Option ℕ)) → length front + 1 ≡ s →
      found_of p (s + 1) c (mass_of p (front ++ Some b ∷ [] ++ None ∷ [])) ≡ sum_by (λ e. mass_of p (front ++ None ∷ []) e * factor_of p.sweep s b e * one_of p (s + 1) e c) (range_with_len 0 p.cells)
  found_after front size =
      let all = range_with_len 0 p.cells in
      let left : ℕ → ℕ = λ e. mass_of p (front ++ None ∷ []) e * factor_of p.sweep s b e in
      found-same p (s + 1) c (mass_of p (front ++ Some b ∷ [] ++ None ∷ [])) (λ d. sum_by (λ e. left e * part_of p.drift s e d) all)
      (λ d. mass_of-drift p front (Some b) d ∙ sum_by-same _ _ all (λ e. rw (mass_of-look p front b e, size) refl))
      ∙ found_gone left

  -- what the look from b leaves of masses and what it finds of them are the masses, for a look from c behind it
  pub left_and_found : (w : ℕ → ℕ) →
      sum_by (λ e. w e * factor_of p.sweep s b e * one_of p (s + 1) e c) (range_with_len 0 p.cells) + found_of p s b (λ e. w e * one_of p (s + 1) e c) ≡
      sum_by (λ e. w e * one_of p (s + 1) e c) (range_with_len 0 p.cells) * p.sweep.denominator
  left_and_found w =
      let all = range_with_len 0 p.cells in
      let g = p.sweep.denominator in
      let f : ℕ → ℕ = factor_of p.sweep s b in
      let one : ℕ → ℕ = λ e. one_of p (s + 1) e c in
      let left : ℕ → ℕ = λ e. w e * f e * one e in
      let found : ℕ → ℕ = λ e. w e * one e * (g - f e) in
      let each : sum_by (λ e. left e + found e) all ≡ sum_by (λ e. w e * one e) all * g =
      sum_by-same _ (λ e. w e * one e * g) all (λ e. parted g (f e) (w e) (one e) (factor_of-le p.sweep sound.sweep s b e)) ∙ sum_by-times (λ e. w e * one e) g all in
      omega (arith, each, sum_by-plus left found all, found_in_cells p sound s b (λ e. w e * one e))
    where
      parted : (g f w one : ℕ) → f ≤ g → w * f * one + w * one * (g - f) ≡ w * one * g
      parted g f w one within =
          let both : f + (g - f) ≡ g = omega (arith, within) in
          let whole : w * one * (f + (g - f)) ≡ w * one * g = ap (λ (n : ℕ). w * one * n) both in
          omega (arith, whole)

module _ (p : Problem) (sound : IsProblem p) (q : List ℕ) (s a : ℕ) (middle : IsMiddle p q s) where
  -- what looks from a and c would find, by the masses that the look from a takes
  pub skip_cells : (c : ℕ) → found_of p (s - 1) a (λ d. mass_of p (looks_to (s - 1) q) d * two_of p s d c) ≡ sum_by (λ e. taken_to p q s a e * one_of p (s + 1) e c) (range_with_len 0 p.cells)
  skip_cells c =
      let all = range_with_len 0 p.cells in
      let m : ℕ → ℕ = mass_of p (looks_to (s - 1) q) in
      let part : ℕ → ℕ → ℕ = part_of p.drift (s - 1) in
      let one : ℕ → ℕ = λ e. one_of p (s + 1) e c in
      found-same p (s - 1) a (λ d. m d * two_of p s d c) (λ d. sum_by (λ e. m d * part d e * one e) all)
      (λ d. scaled (m d) (λ e. part d e * one e) all ∙ sum_by-same _ _ all (λ e. omega arith))
      ∙ found-sum p (s - 1) a (λ e d. m d * part d e * one e) all
      ∙ sum_by-same _ _ all (λ e. found-times p (s - 1) a (going_on p q s e) (one e))
    where
      scaled : (k : ℕ) (f : ℕ → ℕ) (xs : List ℕ) → k * sum_by f xs ≡ sum_by (λ e. k * f e) xs
      scaled k f xs = sym (sum_by-same (λ e. k * f e) (λ e. f e * k) xs (λ e. omega arith) ∙ sum_by-times f k xs ∙ omega arith)

  module _ (b : ℕ) where
    -- the looks of the prefix, those from a and b, and none behind them
    abbrev looks_two : List (Option ℕ)
    looks_two = looks_to (s - 2) q ++ Some a ∷ [] ++ Some b ∷ [] ++ None ∷ []

    size_one : length (looks_to (s - 2) q ++ Some a ∷ []) + 1 ≡ s
    size_one = omega (arith, length-append (looks_to (s - 2) q) (Some a ∷ []), length-looks_to (s - 2) q (omega (arith, middle.later)), middle.later)

    size_two : length looks_two ≡ s + 1
    size_two =
        let none : Option ℕ = None in
        omega (arith, length-append (looks_to (s - 2) q ++ Some a ∷ [] ++ Some b ∷ []) (none ∷ []), length-append (looks_to (s - 2) q ++ Some a ∷ []) (Some b ∷ []), size_one)

    -- their factors along a track
    factors_two : (x : List ℕ) → s + 1 ≤ length x → looked_along p 1 looks_two x ≡ factors_along p 1 q x * factors_before p (s + 1) (b ∷ a ∷ []) x
    unfolding factors_before
    factors_two x long =
        let front = looks_to (s - 2) q in
        let size : length front ≡ s - 2 = length-looks_to (s - 2) q (omega (arith, middle.later)) in
        let later : length (front ++ Some a ∷ []) ≡ s - 1 = omega (arith, size_one) in
        let here : s + 1 - 1 ≡ s = omega arith in
        let first : 1 + (s - 2) ≡ s - 1 = omega (arith, middle.later) in
        let second : 1 + (s - 1) ≡ s = omega (arith, middle.later) in
        let place : s - 1 - 1 ≡ s - 2 = omega arith in
        looked_along-nones p 1 1 (front ++ Some a ∷ [] ++ Some b ∷ []) x
        ∙ looked_along-at p 1 (front ++ Some a ∷ []) b x (omega (arith, later, middle.later, long))
        ∙ rw (later, second, looked_along-at p 1 front a x (omega (arith, size, middle.later, long)), size, first, here, place, looked_along-nones p 1 (s - 2 - length q) (map Some q) x, factors_along-looked p 1 q x) (omega arith)

    -- the reward of a look from c behind them, by the masses that they leave
    two_reward_is : (c : ℕ) → two_reward_of p q (s + 1) a b c ≡ found_of p (s + 1) c (mass_of p looks_two) * parts_after_two p q s
    unfolding reward_after
    two_reward_is c =
        let all = range_with_len 0 p.cells in
        let g = p.sweep.denominator in
        let rest = g ^ (p.horizon - length q - 2 - 1) in
        let found : ℕ → ℕ = λ d. g - factor_of p.sweep (s + 1) c d in
        let drifts = p.drift.denominator ^ (p.horizon - (s + 1)) in
        let same : p.horizon - (length q + 3) ≡ p.horizon - length q - 2 - 1 = omega arith in
        sum_tracks-same p.cells p.horizon _ (λ x. weight_of p x * (looked_along p 1 looks_two x * (found (cell_in x (s + 1)) * rest)))
        (λ x size. rw (factors_two x (omega (arith, size, middle.last))) (omega arith))
        ∙ found_by_masses p sound looks_two (λ d. found d * rest) (s + 1) (omega arith) size_two middle.last
        ∙ ap (λ (n : ℕ). n * drifts)
        (sum_by-same _ (λ d. mass_of p looks_two d * found d * rest) all (λ d. omega arith)
        ∙ sum_by-times (λ d. mass_of p looks_two d * found d) rest all
        ∙ ap (λ (n : ℕ). n * rest) (found_in_cells p sound (s + 1) c (mass_of p looks_two)))
        ∙ rw same (omega arith)

    -- the edge reward of the looks from b and c, by the masses in period s
    pub edge_cells : (c : ℕ) →
        edge_reward_of p q (s + 1) b c ≡ sum_by (λ e. mass_of p (looks_to s q) e * factor_of p.sweep s b e * one_of p (s + 1) e c) (range_with_len 0 p.cells) * (parts_after_two p q s * p.sweep.denominator)
    edge_cells c =
        let g = p.sweep.denominator in
        let front = looks_to (s - 1) q in
        let size : length front + 1 ≡ s = omega (arith, length-looks_to (s - 1) q (omega (arith, middle.later)), middle.later) in
        let once : s - 1 + 1 ≡ s = omega (arith, middle.later) in
        let none : looks_to s q ≡ front ++ None ∷ [] = rw once at (looks_to-drift (s - 1) q (omega (arith, middle.later))) in
        let two : s + 1 - 2 ≡ s - 1 = omega arith in
        let more : g ^ (p.horizon - (length q + 2)) ≡ g ^ (p.horizon - (length q + 3)) * g =
        ap (λ (n : ℕ). g ^ n) (let e : p.horizon - (length q + 2) ≡ suc (p.horizon - (length q + 3)) = omega (arith, middle.later, middle.last) in e) ∙ pow-suc g (p.horizon - (length q + 3)) in
        edge_reward_is p sound q (s + 1) b c (omega (arith, middle.later)) middle.last
        ∙ rw (two, more, found_after p sound s b c front size, none) (omega arith)

    -- the reward of a look from c after those from a and b, and what looks from a and c would find, are the edge reward after the look
    -- from b and what all three would find
    pub two_looks : (c : ℕ) → two_reward_of p q (s + 1) a b c + skip_of p q s a c ≡ edge_reward_of p q (s + 1) b c + joint_of p q s a b c
    two_looks c =
        let all = range_with_len 0 p.cells in
        let g = p.sweep.denominator in
        let parts = parts_after_two p q s in
        let f : ℕ → ℕ = factor_of p.sweep s b in
        let one : ℕ → ℕ = λ e. one_of p (s + 1) e c in
        let left : ℕ → ℕ = λ e. mass_after_look p q s a e * f e * one e in
        let taken : ℕ → ℕ = λ e. taken_to p q s a e * f e * one e in
        let mass : ℕ → ℕ = λ e. mass_of p (looks_to s q) e * f e * one e in
        let reward : two_reward_of p q (s + 1) a b c ≡ sum_by left all * parts =
        two_reward_is c ∙ ap (λ (n : ℕ). n * parts) (found_after p sound s b c (looks_to (s - 2) q ++ Some a ∷ []) size_one) in
        let both : sum_by left all + sum_by taken all ≡ sum_by mass all * g =
        sym (sum_by-plus left taken all)
        ∙ sum_by-same _ (λ e. mass e * g) all (λ e. split (mass_after_look p q s a e) (taken_to p q s a e) (mass_of p (looks_to s q) e) g (f e) (one e) (taken_of_mass p q s middle.later sound a e))
        ∙ sum_by-times mass g all in
        let behind = left_and_found p sound s b c (taken_to p q s a) in
        let sums : sum_by left all + sum_by (λ e. taken_to p q s a e * one e) all * g ≡ sum_by mass all * g + found_of p s b (λ e. taken_to p q s a e * one e) =
        omega (arith, both, behind) in
        let times = ap (λ (n : ℕ). n * parts) sums in
        rw (skip_cells c, reward, edge_cells c) (omega (arith, times))
      where
        split : (l t m g f one : ℕ) → l + t ≡ m * g → l * f * one + t * f * one ≡ m * f * one * g
        split l t m g f one parts = let times = ap (λ (n : ℕ). n * (f * one)) parts in omega (arith, times)
