-- Edge rewards, by masses: what the look just before takes of a reward.
use Rattle.std.proofs.Common.{ℕ, suc, ◌+◌, ◌*◌, ◌-◌, ◌^◌, ◌<◌, ◌≤◌, ◌≡◌, List, [], ◌∷◌, ◌++◌, Option, Some, None, map, length, slice_index, refl, ap, ◌∙◌, arith, sum_by, add-zero, length-append}
use Rattle.std.proofs.Math.Nat.{pow-suc}
use Rattle.std.specs.List.{range_with_len}
use Rattle.drift_chain.specs.DriftRows.{part_of}
use Rattle.sweep_table.specs.LookParts.{factor_of}
use Rattle.sweep_table.proofs.Factors.{factor_of-le}
use Rattle.search_model.specs.Problem.{Problem, IsProblem}
use Rattle.search_model.specs.Tracks.{weight_of}
use Rattle.search_model.specs.Bounds.{factors_along, cell_in, reward_of}
use Rattle.search_model.specs.Edge.{edge_reward_of}
use Rattle.list_laws.proofs.Sums.{sum_by-same, sum_by-times, sum_by-plus}
use Rattle.search_model.proofs.LookRows.{found_in_cells}
use Rattle.search_model.proofs.TrackSums.{sum_tracks-same}
use Rattle.belief_update.specs.Masses.{looked_along, mass_of, looks_to}
use Rattle.belief_update.proofs.TrackSteps.{looked_along-nones}
use Rattle.belief_update.proofs.MassSteps.{mass_of-look, mass_of-drift}
use Rattle.belief_update.proofs.Looks.{length-looks_to, looks_to-drift}
use Rattle.belief_update.proofs.Rewards.{factors_along-looked, found_by_masses, rewards_by_masses_hold}
use Rattle.belief_update.specs.Found.{found_of}
use Rattle.edge_bound.specs.After.{mass_after_look, going_on, parts_after}

-- one more look along a track that goes on
pub looked_along-at : (p : Problem) (t : ℕ) (looks : List (Option ℕ)) (a : ℕ) (x : List ℕ) → length looks < length x →
    looked_along p t (looks ++ Some a ∷ []) x ≡ looked_along p t looks x * factor_of p.sweep (t + length looks) a (slice_index x (length looks))
unfolding looked_along
looked_along-at p t looks a [] h = absurd (omega (arith, h))
looked_along-at p t [] a (c ∷ x) h = rw (add-zero t) (omega arith)
looked_along-at p t (None ∷ looks) a (c ∷ x) h =
    let later : t + 1 + length looks ≡ t + suc (length looks) = omega arith in
    rw (looked_along-at p (t + 1) looks a x (omega (arith, h)), later) refl
looked_along-at p t (Some b ∷ looks) a (c ∷ x) h =
    let later : t + 1 + length looks ≡ t + suc (length looks) = omega arith in
    rw (looked_along-at p (t + 1) looks a x (omega (arith, h)), later) (omega arith)

-- the reward of a look, by the masses of the cells that it covers
pub reward_is : (p : Problem) → IsProblem p → (q : List ℕ) (t b : ℕ) → length q < t → t ≤ p.horizon →
    found_of p t b (mass_of p (looks_to t q)) * (p.drift.denominator ^ (p.horizon - t) * p.sweep.denominator ^ (p.horizon - (length q + 1))) ≡ reward_of p q t b
reward_is p sound q t b later last =
    let same : p.horizon - (length q + 1) ≡ p.horizon - length q - 1 = omega arith in
    rw (same, rewards_by_masses_hold p sound q t b later last, found_in_cells p sound t b (mass_of p (looks_to t q))) (omega arith)

-- one look part of them is that of the look before, where there is one
pub reward_parts : (p : Problem) → IsProblem p → (q : List ℕ) (t b : ℕ) → length q + 2 ≤ t → t ≤ p.horizon →
    found_of p t b (mass_of p (looks_to t q)) * p.sweep.denominator * parts_after p q t ≡ reward_of p q t b
reward_parts p sound q t b later last =
    let g = p.sweep.denominator in
    let n = p.horizon - (length q + 2) in
    let found = found_of p t b (mass_of p (looks_to t q)) in
    let drifts = p.drift.denominator ^ (p.horizon - t) in
    let more : g ^ (p.horizon - (length q + 1)) ≡ g ^ n * g =
    ap (λ (m : ℕ). g ^ m) (let e : p.horizon - (length q + 1) ≡ suc n = omega (arith, later, last) in e) ∙ pow-suc g n in
    let whole : found * g * (drifts * g ^ n) ≡ found * (drifts * g ^ (p.horizon - (length q + 1))) = rw more (omega arith) in
    omega (arith, whole, reward_is p sound q t b (omega (arith, later)) last)

-- so are one look part and one drift part of them for the look before
pub reward_before : (p : Problem) → IsProblem p → (q : List ℕ) (t a : ℕ) → length q + 2 ≤ t → t ≤ p.horizon →
    found_of p (t - 1) a (mass_of p (looks_to (t - 1) q)) * parts_after p q t * p.drift.denominator * p.sweep.denominator ≡ reward_of p q (t - 1) a
reward_before p sound q t a later last =
    let d = p.drift.denominator in
    let g = p.sweep.denominator in
    let m = p.horizon - t in
    let n = p.horizon - (length q + 2) in
    let found = found_of p (t - 1) a (mass_of p (looks_to (t - 1) q)) in
    let drifts : d ^ (p.horizon - (t - 1)) ≡ d ^ m * d =
    ap (λ (k : ℕ). d ^ k) (let e : p.horizon - (t - 1) ≡ suc m = omega (arith, later, last) in e) ∙ pow-suc d m in
    let looks : g ^ (p.horizon - (length q + 1)) ≡ g ^ n * g =
    ap (λ (k : ℕ). g ^ k) (let e : p.horizon - (length q + 1) ≡ suc n = omega (arith, later, last) in e) ∙ pow-suc g n in
    let whole : found * (d ^ m * g ^ n) * d * g ≡ found * (d ^ (p.horizon - (t - 1)) * g ^ (p.horizon - (length q + 1))) = rw (drifts, looks) (omega arith) in
    omega (arith, whole, reward_is p sound q (t - 1) a (omega (arith, later)) (omega (arith, last)))

-- the looks of a prefix, one from position a in the period before t, and none in period t
abbrev looks_before : List ℕ → ℕ → ℕ → List (Option ℕ)
looks_before q t a = looks_to (t - 2) q ++ Some a ∷ [] ++ None ∷ []

length-looks_before : (q : List ℕ) (t a : ℕ) → length q + 2 ≤ t → length (looks_before q t a) ≡ t
length-looks_before q t a later =
    let none : Option ℕ = None in
    let front = length-looks_to (t - 2) q (omega (arith, later)) in
    omega (arith, front, length-append (looks_to (t - 2) q ++ Some a ∷ []) (none ∷ []), length-append (looks_to (t - 2) q) (Some a ∷ []), later)

-- their factors along a track
factors_before : (p : Problem) (q : List ℕ) (t a : ℕ) (x : List ℕ) → length q + 2 ≤ t → t ≤ length x →
    looked_along p 1 (looks_before q t a) x ≡ factors_along p 1 q x * factor_of p.sweep (t - 1) a (cell_in x (t - 1))
factors_before p q t a x later long =
    let front = looks_to (t - 2) q in
    let size : length front ≡ t - 2 = length-looks_to (t - 2) q (omega (arith, later)) in
    let period : 1 + (t - 2) ≡ t - 1 = omega (arith, later) in
    let place : t - 1 - 1 ≡ t - 2 = omega arith in
    looked_along-nones p 1 1 (front ++ Some a ∷ []) x
    ∙ looked_along-at p 1 front a x (omega (arith, size, later, long))
    ∙ rw (size, period, place, looked_along-nones p 1 (t - 2 - length q) (map Some q) x, factors_along-looked p 1 q x) refl

-- the edge reward of a move, by the masses that a look from its first position leaves
pub edge_reward_is : (p : Problem) → IsProblem p → (q : List ℕ) (t a b : ℕ) → length q + 2 ≤ t → t ≤ p.horizon →
    edge_reward_of p q t a b ≡ found_of p t b (mass_after_look p q t a) * (p.drift.denominator ^ (p.horizon - t) * p.sweep.denominator ^ (p.horizon - (length q + 2)))
unfolding edge_reward_of
edge_reward_is p sound q t a b later last =
    let all = range_with_len 0 p.cells in
    let g = p.sweep.denominator in
    let rest = g ^ (p.horizon - length q - 2) in
    let found : ℕ → ℕ = λ c. g - factor_of p.sweep t b c in
    let looks = looks_before q t a in
    let drifts = p.drift.denominator ^ (p.horizon - t) in
    let same : p.horizon - (length q + 2) ≡ p.horizon - length q - 2 = omega arith in
    sum_tracks-same p.cells p.horizon _ (λ x. weight_of p x * (looked_along p 1 looks x * (found (cell_in x t) * rest)))
    (λ x size. rw (factors_before p q t a x later (omega (arith, size, last))) (omega arith))
    ∙ found_by_masses p sound looks (λ c. found c * rest) t (omega (arith, later)) (length-looks_before q t a later) last
    ∙ ap (λ (s : ℕ). s * drifts)
    (sum_by-same _ (λ c. mass_of p looks c * found c * rest) all (λ c. omega arith)
    ∙ sum_by-times (λ c. mass_of p looks c * found c) rest all
    ∙ ap (λ (s : ℕ). s * rest) (found_in_cells p sound t b (mass_of p looks)))
    ∙ rw same (omega arith)

-- a mass m, of which a look with factor f leaves a part and finds the rest, and a part of both goes on
part_taken : (g f m part : ℕ) → f ≤ g → m * f * part + m * part * (g - f) ≡ m * part * g
part_taken g f m part within =
    let both : f + (g - f) ≡ g = omega (arith, within) in
    let whole : m * part * (f + (g - f)) ≡ m * part * g = ap (λ (s : ℕ). m * part * s) both in
    omega (arith, whole)

module _ (p : Problem) (q : List ℕ) (t : ℕ) (later : length q + 2 ≤ t) where
  -- the looks up to the period before, with none there
  looks_none : looks_to (t - 1) q ≡ looks_to (t - 2) q ++ None ∷ []
  looks_none =
      let once : t - 2 + 1 ≡ t - 1 = omega (arith, later) in
      rw once at (looks_to-drift (t - 2) q (omega (arith, later)))

  -- the mass of a cell is what comes to it of the masses before
  pub mass_comes : (d : ℕ) → mass_of p (looks_to t q) d ≡ sum_by (going_on p q t d) (range_with_len 0 p.cells)
  mass_comes d =
      let front = looks_to (t - 2) q in
      let size : length front + 1 ≡ t - 1 = omega (arith, length-looks_to (t - 2) q (omega (arith, later)), later) in
      let twice : t - 1 + 1 ≡ t = omega (arith, later) in
      let two : looks_to t q ≡ looks_to (t - 1) q ++ None ∷ [] = rw twice at (looks_to-drift (t - 1) q (omega (arith, later))) in
      ap (λ (looks : List (Option ℕ)). mass_of p looks d) (two ∙ ap (λ (looks : List (Option ℕ)). looks ++ None ∷ []) looks_none)
      ∙ mass_of-drift p front None d
      ∙ sum_by-same _ _ (range_with_len 0 p.cells) (λ c. rw (size, looks_none) refl)

  -- what a look from a in the period before leaves of the mass in d, and what it takes of it, are that mass without a look
  pub taken_of_mass : IsProblem p → (a d : ℕ) → mass_after_look p q t a d + found_of p (t - 1) a (going_on p q t d) ≡ mass_of p (looks_to t q) d * p.sweep.denominator
  taken_of_mass sound a d =
      let all = range_with_len 0 p.cells in
      let g = p.sweep.denominator in
      let front = looks_to (t - 2) q in
      let size : length front + 1 ≡ t - 1 = omega (arith, length-looks_to (t - 2) q (omega (arith, later)), later) in
      let mass : ℕ → ℕ = mass_of p (looks_to (t - 1) q) in
      let part : ℕ → ℕ = λ c. part_of p.drift (t - 1) c d in
      let f : ℕ → ℕ = λ c. factor_of p.sweep (t - 1) a c in
      let stays : ℕ → ℕ = λ c. mass c * f c * part c in
      let goes : ℕ → ℕ = λ c. mass c * part c * (g - f c) in
      let left : mass_after_look p q t a d ≡ sum_by stays all =
      mass_of-drift p front (Some a) d ∙ sum_by-same _ _ all (λ c. rw (mass_of-look p front a c, size, looks_none) refl) in
      let both = sum_by-plus stays goes all in
      let each : sum_by (λ c. stays c + goes c) all ≡ sum_by (λ c. mass c * part c) all * g =
      sum_by-same _ (λ c. mass c * part c * g) all (λ c. part_taken g (f c) (mass c) (part c) (factor_of-le p.sweep sound.sweep (t - 1) a c)) ∙ sum_by-times (λ c. mass c * part c) g all in
      rw (left, mass_comes d, ← found_in_cells p sound (t - 1) a (going_on p q t d)) (omega (arith, both, each))
