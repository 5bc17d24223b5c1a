-- The belief after the looks of a prefix has the masses of its period, but for the parts to come.
use Rattle.std.proofs.Common.{ℕ, ◌*◌, ◌-◌, ◌^◌, ◌<◌, ◌≤◌, ◌≡◌, List, Some, map, take, length, slice_index, sym, ap, ◌∙◌, arith}
use Rattle.std.specs.List.{range_with_len}
use Rattle.std.proofs.lemmas.Nat.{mul-pow}
use Rattle.std.proofs.Math.Nat.{pow-zero}
use Rattle.std.proofs.lemmas.List.{length-map, take_all}
use Rattle.std.proofs.lemmas.List.FromFn.{length-range_with_len, get_or-map-range_with_len, fill_by_all}
use Rattle.std.proofs.lemmas.List.Sums.{sum-map}
use Rattle.search_model.specs.Problem.{Problem, IsProblem}
use Rattle.search_model.specs.Legal.{IsPath}
use Rattle.search_model.specs.Tracks.{whole_weight}
use Rattle.list_laws.proofs.Sums.{sum_by-range-part}
use Rattle.search_model.proofs.Totals.{nothing_is_cut_off}
use Rattle.belief_update.specs.Belief.{BeliefState, IsBelief}
use Rattle.belief_update.proofs.BeliefSteps.{mass_at}
use Rattle.mission_report.specs.Account.{all_cells, mass_in, mass_left}
use Rattle.mission_report.specs.Report.{left_row, mass_rows}
use Rattle.mission_report.proofs.RowSteps.{left_by}
use Rattle.mission_report.proofs.Values.{period_is, last_is}
use Rattle.mission_report.proofs.PeriodMasses.{masses_are_missed, masses_by_belief, mass_in-front}

-- what is made of the numbers below n alike is alike
same_below : {X : Type 0} (g h : ℕ → X) (n : ℕ) → ((c : ℕ) → c < n → g c ≡ h c) → map g (range_with_len 0 n) ≡ map h (range_with_len 0 n)
same_below g h n same =
    let size : length (map g (range_with_len 0 n)) ≡ n = length-map (range_with_len 0 n) g ∙ length-range_with_len 0 n in
    fill_by_all h (map g (range_with_len 0 n)) n (g 0) size (λ c lt. get_or-map-range_with_len g 0 n c c (g 0) lt (omega arith) ∙ same c lt)

-- a mass is a part of the whole weight
pub mass_part : (p : Problem) → IsProblem p → (q : List ℕ) (t c : ℕ) → 1 ≤ t → t ≤ p.horizon → c < p.cells → mass_in p q t c ≤ whole_weight p
mass_part p sound q t c some last lt =
    omega (arith, sum_by-range-part p.cells (mass_in p q t) c lt, sum-map (mass_in p q t) (all_cells p), masses_are_missed p sound q t some last, nothing_is_cut_off p (take t q) sound)

-- the lines of a period's cells are those of the prefix up to then
pub mass_rows-front : (p : Problem) (q : List ℕ) (t : ℕ) → mass_rows p (take t q) t ≡ mass_rows p q t
mass_rows-front p q t = same_below (λ c. left_row p c (mass_in p (take t q) t c)) (λ c. left_row p c (mass_in p q t c)) p.cells (λ c lt. ap (left_row p c) (mass_in-front p q t c))

module _ (p : Problem) (sound : IsProblem p) (q : List ℕ) (b : BeliefState) (belief : IsBelief p (map Some q) b) where
  abbrev later_of : ℕ
  later_of = p.drift.denominator ^ (p.horizon - b.period) * p.sweep.denominator ^ (p.horizon - b.period)

  here : b.period ≡ length q
  here = period_is p q b belief

  -- the parts to come make a mass of the belief one of the period
  pub mass_times : (c : ℕ) → c < p.cells → slice_index b.masses c * later_of ≡ mass_in p q b.period c
  mass_times c lt =
      let law = masses_by_belief p sound q b.period c belief.first (omega (arith, here)) belief.last lt in
      let whole : take b.period q ≡ q = take_all b.period q (omega (arith, here)) in
      rw (mass_at p (map Some q) b belief c lt) (sym (rw (whole, mul-pow p.drift.denominator p.sweep.denominator (p.horizon - b.period)) at law))

  pub mass_times-part : (c later : ℕ) → later ≡ later_of → c < p.cells → slice_index b.masses c * later ≤ whole_weight p
  mass_times-part c later e lt = rw (e, mass_times c lt) (mass_part p sound q b.period c belief.first belief.last lt)

  -- the lines of the cells, by the belief's masses
  pub mass_lines : (later : ℕ) → later ≡ later_of → map (left_by p b.masses later) (all_cells p) ≡ mass_rows p q b.period
  mass_lines later e =
      same_below (left_by p b.masses later) (λ c. left_row p c (mass_in p q b.period c)) p.cells (λ c lt.
      let mass : slice_index b.masses c * later ≡ mass_in p q b.period c = rw e (mass_times c lt) in
      ap (left_row p c) mass)

  -- what is made of each cell and the mass that a path leaves there, by the belief's masses alone
  pub by_last_masses : {X : Type 0} (f : ℕ → ℕ → X) → IsPath p q → map (λ c. f c (slice_index b.masses c)) (all_cells p) ≡ map (λ c. f c (mass_left p q c)) (all_cells p)
  by_last_masses f path =
      let end = last_is p q b path belief in
      let none : p.horizon - p.horizon ≡ 0 = omega arith in
      let one : (m : ℕ) → m * (p.drift.denominator ^ (p.horizon - p.horizon) * p.sweep.denominator ^ (p.horizon - p.horizon)) ≡ m = λ m. rw (none, pow-zero p.drift.denominator, pow-zero p.sweep.denominator) (omega arith) in
      same_below (λ c. f c (slice_index b.masses c)) (λ c. f c (mass_left p q c)) p.cells (λ c lt.
      ap (f c) (sym (one (slice_index b.masses c)) ∙ (rw end at (mass_times c lt))))
