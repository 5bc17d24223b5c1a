-- The factors of a look's row, entry by entry.
use Rattle.std.proofs.Common.{ℕ, zero, suc, ◌+◌, ◌*◌, ◌-◌, ◌^◌, ◌<◌, ◌≡◌, ◌≢◌, ◌==◌, if◌then◌else◌, List, [], ◌∷◌, ◌++◌, length, get_or, slice_index, set, take, refl, sym, ap, ◌∙◌, arith, All, inl, inr, add-one, get_or-set_same, get_or-set_other}
use Rattle.std.proofs.Math.Seq.{take-suc}
use Rattle.std.proofs.lemmas.Bool.{cases_lt, cases_eq, eq-eqb, ne_eqb}
use Rattle.std.proofs.lemmas.List.{get_or_default}
use Rattle.std.proofs.Math.Nat.{le_refl}
use Rattle.list_laws.proofs.Ascending.{Ascends, Ascends-from_keys, Ascends-head, Ascends-tail}
use Rattle.period_rows.specs.declared.part.CellPart.{CellPart}
use Rattle.sweep_table.specs.LookParts.{factor_in, IsLookRow}
use Rattle.belief_update.specs.Places.{IsPlaceOf}
use Rattle.sweep_table.proofs.Factors.{factor_in-none, factor_in-entry}

-- a row that covers nothing misses all
pub factor_none : (g c : ℕ) → factor_in g [] c ≡ g
unfolding factor_in
factor_none g c = refl

-- an entry at the end of a row counts where no earlier one does
factor_at_end : (g : ℕ) (row : List CellPart) (x : CellPart) (c : ℕ) → factor_in g (row ++ x ∷ []) c ≡ factor_in (if x.cell == c then x.part else g) row c
unfolding factor_in
factor_at_end g [] x c = elim (cases_eq x.cell c) [
  | inl same ↦ rw (eq-eqb x.cell c same) refl
  | inr apart ↦ rw (ne_eqb x.cell c apart) refl
]
factor_at_end g (y ∷ row) x c = elim (cases_eq y.cell c) [
  | inl same ↦ rw (eq-eqb y.cell c same) refl
  | inr apart ↦ rw (ne_eqb y.cell c apart) (factor_at_end g row x c)
]

-- in an ascending row no earlier entry is of an entry's cell
factor_before : (g : ℕ) (row : List CellPart) (i : ℕ) (e : CellPart) → Ascends (λ entry. entry.cell) row → i < length row →
    factor_in g (take i row) (get_or row i e).cell ≡ g
unfolding factor_in
factor_before g [] i e up inside = absurd (omega arith)
factor_before g (x ∷ row) zero e up inside = refl
factor_before g (x ∷ row) (suc i) e up inside =
    let below : x.cell < (get_or row i e).cell = Ascends-head (λ entry. entry.cell) x row up i e (omega arith) in
    rw (ne_eqb x.cell (get_or row i e).cell (λ same. omega arith)) (factor_before g row i e (Ascends-tail (λ entry. entry.cell) x row up) (omega arith))

module _ (g cells : ℕ) (row : List CellPart) (i : ℕ) (e : CellPart) (right : IsLookRow g cells row) (inside : i < length row) where
  up : Ascends (λ entry. entry.cell) row
  up = Ascends-from_keys (λ entry. entry.cell) row right.ascending

  here : (get_or row i e).cell < cells
  here = right.within i e inside

  -- with an entry more its cell has its part
  factor_more_same : factor_in g (take (i + 1) row) (get_or row i e).cell ≡ (get_or row i e).part
  factor_more_same =
      let d = (get_or row i e).cell in
      rw (add-one i, take-suc row i e inside, factor_at_end g (take i row) (get_or row i e) d, eq-eqb d d refl) (factor_before (get_or row i e).part row i e up inside)

  -- and the others have what they had
  factor_more_other : (c : ℕ) → (get_or row i e).cell ≢ c → factor_in g (take (i + 1) row) c ≡ factor_in g (take i row) c
  factor_more_other c apart = rw (add-one i, take-suc row i e inside, factor_at_end g (take i row) (get_or row i e) c, ne_eqb (get_or row i e).cell c apart) refl

  -- numbers made of the cells' factors, in a row up to an entry and with it
  pub factor-step : (make : ℕ → ℕ → ℕ) (now : List ℕ) → cells ≡ length now →
      ((c : ℕ) → c < cells → slice_index now c ≡ make c (factor_in g (take i row) c)) →
      (v : ℕ) → v ≡ make (get_or row i e).cell (get_or row i e).part →
      (c : ℕ) → c < cells → slice_index (set now (get_or row i e).cell v) c ≡ make c (factor_in g (take (i + 1) row) c)
  factor-step make now size each v is c lt =
      let d = (get_or row i e).cell in
      elim (cases_eq d c) [
        | inl same ↦
            let there : d < length now = omega (arith, here, size) in
            rw (← same, get_or-set_same now d v 0 there, factor_more_same) is
        | inr apart ↦ rw (factor_more_other c apart, get_or-set_other now d c v 0 (λ s. apart (sym s))) (each c lt)
      ]

  -- numbers to which an entry more adds what it finds of a mass
  module _ (olds now : List ℕ) (mass : ℕ → ℕ) (each : (c : ℕ) → c < cells → slice_index now c ≡ slice_index olds c + mass c * (g - factor_in g (take i row) c)) where
    -- none was added in its cell
    untouched : slice_index now (get_or row i e).cell ≡ slice_index olds (get_or row i e).cell
    untouched =
        let none : g - g ≡ 0 = omega arith in
        let so_far = each (get_or row i e).cell here in
        rw (factor_before g row i e up inside, none) at so_far ∙ omega arith

    -- it fits where what the row finds does
    pub found-fits : ((c : ℕ) → c < cells → slice_index olds c + mass c * (g - factor_in g row c) < 2 ^ 127) →
        slice_index now (get_or row i e).cell + mass (get_or row i e).cell * (g - (get_or row i e).part) < 2 ^ 127
    found-fits fits =
        let whole = fits (get_or row i e).cell here in
        rw untouched (rw (factor_in-entry g row i e up inside) at whole)

    -- and is right
    pub found-adds : cells ≡ length now → (c : ℕ) → c < cells →
        slice_index (set now (get_or row i e).cell (get_or now (get_or row i e).cell 0 + mass (get_or row i e).cell * (g - (get_or row i e).part))) c
        ≡ slice_index olds c + mass c * (g - factor_in g (take (i + 1) row) c)
    found-adds size = factor-step (λ c part. slice_index olds c + mass c * (g - part)) now size each _ (ap (λ (n : ℕ). n + mass (get_or row i e).cell * (g - (get_or row i e).part)) untouched)

-- the place of a cell in a row in ascending order
module _ (row : List CellPart) (c i : ℕ) (place : IsPlaceOf c row i) (e : CellPart) where
  rises : Ascends (λ entry. entry.cell) row
  rises = Ascends-from_keys (λ entry. entry.cell) row place.ascending

  -- the entries behind it are of cells above, too
  above : (k : ℕ) (d : CellPart) → i < k → k < length row → c < (get_or row k d).cell
  above k d after inside =
      let first = place.others i d (le_refl i) (omega arith) in
      let next = rises i k d after inside in
      omega arith

  -- where it has the cell's entry, that has the factor
  pub factor-at_place : (g : ℕ) → i < length row → (get_or row i e).cell ≡ c → (get_or row i e).part ≡ factor_in g row c
  factor-at_place g inside same = rw (← same) (sym (factor_in-entry g row i e rises inside))

  -- and the next cell stands behind it
  pub place-more : i < length row → (get_or row i e).cell ≡ c → IsPlaceOf (c + 1) row (i + 1)
  place-more inside same =
      record {
        ascending = place.ascending;
        below = λ k d before. elim (cases_eq k i) [
          | inl last ↦ rw (last, get_or_default row i d e inside) (omega (arith, same))
          | inr apart ↦ omega (arith, place.below k d (omega (arith, before, apart)))
        ];
        others = λ k d after short. omega (arith, above k d (omega arith) short);
      }

  module _ (off : i < length row → (get_or row i e).cell ≢ c) where
    none : All (λ entry. entry.cell ≢ c) row
    none k d inside same =
        elim (cases_lt k i) [
          | inl before ↦ let less = place.below k d before in omega (arith, less, same)
          | inr after ↦
              elim (cases_eq k i) [
                | inl first ↦
                    let here : i < length row = omega arith in
                    let own : (get_or row i d).cell ≡ c = rw (← first) same in
                    off here (rw (get_or_default row i e d here) own)
                | inr apart ↦ let more = above k d (omega (arith, after, apart)) inside in omega (arith, more, same)
              ]
        ]

    -- else the cell has no entry
    pub factor-off_place : (g : ℕ) → g ≡ factor_in g row c
    factor-off_place g = sym (factor_in-none g row c none)

    -- and the next cell stands there, too
    pub place-same : IsPlaceOf (c + 1) row i
    place-same =
        record {
          ascending = place.ascending;
          below = λ k d before. omega (arith, place.below k d before);
          others = λ k d after inside. let apart = none k d inside in omega (arith, place.others k d after inside, apart);
        }
