-- The steps of the backward pass.
use Rattle.std.proofs.Common.{ℕ, zero, suc, ◌+◌, ◌*◌, ◌-◌, ◌^◌, ◌<◌, ◌≤◌, ◌≡◌, List, ◌∷◌, length, slice_index, get_or, drop, take, inl, inr, refl, ◌∙◌, arith, sum_by, All, mul-le-mul_right}
use Rattle.std.proofs.lemmas.Bool.{cases_lt}
use Rattle.std.proofs.lemmas.List.{drop_more}
use Rattle.std.proofs.lemmas.List.Elements.{All-weaker, All-take, All-get_or}
use Rattle.period_rows.specs.declared.part.CellPart.{CellPart}
use Rattle.drift_chain.specs.DriftRows.{row_of}
use Rattle.sweep_table.specs.LookParts.{factor_of, positions_of}
use Rattle.search_model.specs.Problem.{Problem, IsProblem}
use Rattle.search_model.specs.Legal.{IsPath}
use Rattle.search_model.proofs.PlainSteps.{entry_term, positions_follow, next_fits, entry_fits, entries_done, row_within, after_of-end}
use Rattle.backward_mass.specs.Masses.{backward_of}
use Rattle.backward_mass.specs.Table.{IsRow, IsMissedRow, AreRowsFrom}
use Rattle.list_laws.proofs.Sums.{sum_by-same_all}

-- what an entry of a row adds, by what is missed of the masses of the next period
abbrev pub mass_term : List ℕ → CellPart → ℕ
mass_term missed entry = entry.part * slice_index missed entry.cell

-- the positions of a path are positions of the looks
pub look_within : (p : Problem) → IsProblem p → (q : List ℕ) → IsPath p q → (t : ℕ) → t < p.horizon → slice_index q t < positions_of p.sweep
look_within p sound q path t more =
    let each = positions_follow p sound p.start (omega (arith, sound.start, sound.grid_positions)) q path.follows in
    let within : slice_index q t < p.positions = All-get_or (λ a. a < p.positions) q t 0 (omega (arith, path.whole, more)) each in
    omega (arith, within, sound.sweep_positions)

-- a step back from the masses of the next period
module _ (p : Problem) (sound : IsProblem p) (q : List ℕ) (path : IsPath p q) (t : ℕ) (more : t < p.horizon) where
  left_is : drop t q ≡ slice_index q t ∷ drop (t + 1) q
  left_is = drop_more q t 0 (omega (arith, path.whole, more))

  -- what a look misses of the mass of a next cell fits
  pub missed_fits : 1 ≤ t → (d : ℕ) → d < p.cells → factor_of p.sweep (t + 1) (slice_index q t) d * backward_of p q (t + 1) d < 2 ^ 127
  missed_fits some d within = let fits = next_fits p sound t d more some within (drop t q) (drop (t + 1) q) in rw left_is at fits

  module _ (missed : List ℕ) (row : IsMissedRow p q t missed) where
    term_is : (entry : CellPart) → entry.cell < p.cells → mass_term missed entry ≡ entry_term p t (drop t q) (p.horizon - (t + 1)) entry
    term_is entry within = rw (row entry.cell within, left_is) refl

    terms_are : (entries : List CellPart) → All (λ entry. entry.cell < p.cells) entries → sum_by (mass_term missed) entries ≡ sum_by (entry_term p t (drop t q) (p.horizon - (t + 1))) entries
    terms_are entries within = sum_by-same_all _ _ entries (All-weaker (λ entry. entry.cell < p.cells) _ term_is entries within)

    -- the sum over the entries so far and the next one fits
    pub sum_fits : 1 ≤ t → (c : ℕ) → c < p.cells → (i : ℕ) (e : CellPart) → i < length (row_of p.drift t c) →
        sum_by (mass_term missed) (take i (row_of p.drift t c)) + mass_term missed (get_or (row_of p.drift t c) i e) < 2 ^ 127
    sum_fits some c here i e lt =
        let entries = row_of p.drift t c in
        let within = row_within p sound t c here in
        rw (terms_are (take i entries) (All-take (λ entry. entry.cell < p.cells) i entries within), term_is (get_or entries i e) (All-get_or (λ entry. entry.cell < p.cells) entries i e lt within))
        (entry_fits p sound t c more some here (drop t q) i e lt)

    -- the sum over all entries is the mass
    pub sum_is : (c : ℕ) → c < p.cells → sum_by (mass_term missed) (row_of p.drift t c) ≡ backward_of p q t c
    sum_is c here = terms_are (row_of p.drift t c) (row_within p sound t c here) ∙ entries_done p sound t c more here (drop t q)

-- ones are the masses of the last period
pub last_row : (p : Problem) → IsProblem p → (q masses : List ℕ) → ((c : ℕ) → c < p.cells → slice_index masses ((p.horizon - 1) * p.cells + c) ≡ 1) → AreRowsFrom p q p.horizon masses
last_row p sound q masses ones t from within c lt =
    let same : t ≡ p.horizon = omega (arith, from, within) in
    rw same (ones c lt ∙ after_of-end p sound p.horizon c (drop p.horizon q) refl)

-- the rows from period k on, where that of period k was written before the others
pub rows_more : (p : Problem) (q : List ℕ) (k : ℕ) (before after : List ℕ) → 1 ≤ k → AreRowsFrom p q (k + 1) before →
    IsRow p q k after ((k - 1) * p.cells) → ((i : ℕ) → (k - 1) * p.cells + p.cells ≤ i → slice_index after i ≡ slice_index before i) → AreRowsFrom p q k after
rows_more p q zero before after some rows here later t from within c lt = absurd (omega (arith, some))
rows_more p q (suc j) before after some rows here later t from within c lt =
    let first : suc j - 1 ≡ j = omega arith in
    elim (cases_lt (suc j) t) [
      | inl beyond ↦
          let place : suc j * p.cells ≤ (t - 1) * p.cells = mul-le-mul_right p.cells (omega (arith, beyond)) in
          later ((t - 1) * p.cells + c) (rw first (omega (arith, place))) ∙ rows t (omega (arith, beyond)) within c lt
      | inr not_beyond ↦ let same : t ≡ suc j = omega (arith, from, not_beyond) in rw same (here c lt)
    ]
