-- What a look takes of its own cell alone, as units that go where a flow has them.
use Rattle.std.proofs.Common.{ℕ, zero, suc, ◌+◌, ◌-◌, ◌*◌, ◌<◌, ◌≤◌, ◌≡◌, ◌≢◌, List, [], ◌∷◌, ◌++◌, length, slice_index, refl, sym, ◌∙◌, arith, inl, inr, sum_by, length-append}
use Rattle.std.specs.List.{range_with_len}
use Rattle.std.proofs.Math.Nat.{pow-zero, pow-suc}
use Rattle.std.proofs.lemmas.Bool.{cases_eq, eq-eqb, ne_eqb}
use Rattle.std.proofs.lemmas.List.FromFn.{get_or-map-range_with_len, length-map-range_with_len}
use Rattle.drift_chain.specs.DriftRows.{part_of}
use Rattle.sweep_table.specs.LookParts.{factor_of}
use Rattle.search_model.specs.Problem.{Problem, IsProblem}
use Rattle.list_laws.proofs.Sums.{sum_by-range-same, sum_by-times}
use Rattle.belief_update.specs.Masses.{looks_to}
use Rattle.belief_update.specs.Belief.{BeliefState, IsBelief}
use Rattle.belief_update.specs.Taken.{TakenState, IsTaken}
use Rattle.belief_update.specs.declared.flows.UnitPart.{UnitPart}
use Rattle.belief_update.specs.Flows.{DriftsAlike, unit_of, HoldUnits, IsUnits, IsOwn, units_on, IsMadeUp}
use Rattle.belief_update.proofs.Units.{unit_of-first, unit_of-step}
use Rattle.belief_update.proofs.OwnLooks.{own_factors, own_factor_there}
use Rattle.belief_update.proofs.TakenSteps.{look_scales, drift_taken}

-- a unit that hasn't moved
unit_here : (p : Problem) (a c : ℕ) → c ≡ a → unit_of p a zero c ≡ 1
unit_here p a c same = rw (unit_of-first p a c, eq-eqb c a same) refl

unit_elsewhere : (p : Problem) (a c : ℕ) → c ≢ a → unit_of p a zero c ≡ 0
unit_elsewhere p a c apart = rw (unit_of-first p a c, ne_eqb c a apart) refl

-- units of which each goes on as one does
pub units_on-at : (p : Problem) (a units n c : ℕ) → c < p.cells → slice_index (units_on p a units n) c ≡ units * unit_of p a n c
units_on-at p a units n c here = get_or-map-range_with_len (λ d. units * unit_of p a n d) 0 p.cells c c 0 here (omega arith)

-- what looks took, said again
same_taken : (p : Problem) (q r : List ℕ) (s : TakenState) (t g : ℕ) (ys : List ℕ) → IsTaken p q r s → s.period ≡ t → s.scale ≡ g → length ys ≡ p.cells →
    ((c : ℕ) → c < p.cells → slice_index ys c ≡ slice_index s.masses c) → IsTaken p q r (record { period = t; scale = g; masses = ys })
same_taken p q r s t g ys taken period scale size each = record {
  order = taken.order;
  first = omega (arith, taken.first, period);
  late = omega (arith, taken.late, period);
  last = omega (arith, taken.last, period);
  cells = size;
  scale = sym scale ∙ taken.scale;
  each = λ c here. rw (← period, ← scale, each c here) (taken.each c here);
}

module _ (p : Problem) (q : List ℕ) (a : ℕ) (s : TakenState) (taken : IsTaken p q (q ++ a ∷ []) s) (period : s.period ≡ length q + 1) (own : IsOwn p a) where
  -- it was one look
  one : s.scale ≡ p.sweep.denominator
  one =
      let more : length (q ++ a ∷ []) - length q ≡ suc 0 = omega (arith, length-append q (a ∷ [])) in
      rw (taken.scale, more, pow-suc p.sweep.denominator 0, pow-zero p.sweep.denominator) (omega arith)

  -- elsewhere the look finds nothing
  nothing_elsewhere : (c : ℕ) → c < p.cells → c ≢ a → slice_index s.masses c ≡ 0
  nothing_elsewhere c here apart =
      let (part, rows) = own in
      let all : factor_of p.sweep s.period a c ≡ p.sweep.denominator = sym (own_factors p p.sweep s.period a part refl rows c) ∙ own_factor_there p.sweep.denominator a part c (λ e. apart (sym e)) in
      let scaled = look_scales p q a c s.period period in
      let both = taken.each c here in
      omega (arith, rw (scaled, all, one) at both)

  -- so it takes units of its own cell
  units_first : (c : ℕ) → c < p.cells → slice_index (units_on p a (slice_index s.masses a) zero) c ≡ slice_index s.masses c
  units_first c here = elim (cases_eq c a) [
    | inl same ↦ rw (units_on-at p a (slice_index s.masses a) zero c here, unit_here p a c same, same) (omega arith)
    | inr apart ↦ rw (units_on-at p a (slice_index s.masses a) zero c here, unit_elsewhere p a c apart, nothing_elsewhere c here apart) (omega arith)
  ]

  -- which go on as its flow does
  module _ (sound : IsProblem p) (alike : DriftsAlike p) where
    abbrev units : ℕ
    units = slice_index s.masses a

    units_more : (n t d : ℕ) → 1 ≤ t → t < p.horizon → d < p.cells →
        slice_index (units_on p a units (suc n)) d ≡ sum_by (λ c. slice_index (units_on p a units n) c * part_of p.drift t c d) (range_with_len 0 p.cells)
    units_more n t d some more here =
        let unit : ℕ → ℕ = λ c. unit_of p a n c * part_of p.drift 1 c d in
        let times = sum_by-times unit units (range_with_len 0 p.cells) in
        let each : sum_by (λ c. unit c * units) (range_with_len 0 p.cells) ≡ sum_by (λ c. slice_index (units_on p a units n) c * part_of p.drift t c d) (range_with_len 0 p.cells) =
        sum_by-range-same p.cells _ _ (λ c there. rw (units_on-at p a units n c there, alike t c some more there) (omega arith)) in
        rw (units_on-at p a units (suc n) d here, unit_of-step p a n d) (omega (arith, times) ∙ each)

    pub made_up : IsMadeUp p q a units
    made_up zero last = same_taken p q (q ++ a ∷ []) s (length q + 1 + 0) p.sweep.denominator (units_on p a units zero) taken (omega (arith, period)) one (length-map-range_with_len _ 0 p.cells) units_first
    made_up (suc n) last =
        let t : ℕ = length q + 1 + n in
        let before = made_up n (omega (arith, last)) in
        let size = length-map-range_with_len (λ c. units * unit_of p a n c) 0 p.cells in
        let next = drift_taken p sound q (q ++ a ∷ []) (record { period = t; scale = p.sweep.denominator; masses = units_on p a units n }) before (units_on p a units (suc n)) (omega (arith, last))
        (length-map-range_with_len _ 0 p.cells ∙ sym size) (λ d here. rw size (units_more n t d (omega arith) (omega (arith, last)) (omega (arith, here, size)))) in
        same_taken p q (q ++ a ∷ []) _ (length q + 1 + suc n) p.sweep.denominator (units_on p a units (suc n)) next (omega arith) refl (length-map-range_with_len _ 0 p.cells) (λ c here. refl)

-- in a later period they are where the entries of the flow have them
pub units_there : (p : Problem) (q : List ℕ) (a units n : ℕ) (b : BeliefState) (entries : List UnitPart) → IsMadeUp p q a units → 1 ≤ n → length q + 1 + n ≤ p.horizon →
    IsBelief p (looks_to (length q + 1 + n) q) b → HoldUnits p a units n entries → IsUnits p q (q ++ a ∷ []) b units entries (record { period = length q + 1 + n; scale = p.sweep.denominator; masses = units_on p a units n })
units_there p q a units n b entries made some last belief hold = record {
  later = record {
    one = length-append q (a ∷ []);
    later = omega (arith, length-append q (a ∷ []), some);
    beside = record { belief = belief; taken = made n last };
  };
  cells = hold.cells;
  units = λ c here. units_on-at p a units n c here ∙ sym (hold.each c here);
}
