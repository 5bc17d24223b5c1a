-- The drift rows of single periods are right changes of a drift.
use Rattle.std.proofs.Common.{◌≡◌, ℕ, ◌<◌, ◌≤◌, List, [], map, length, get_or, refl, sym, ap, ◌∙◌, arith, subst, inl, inr}
use Rattle.std.proofs.lemmas.List.{length-map, get_or-map}
use Rattle.std.proofs.lemmas.List.Elements.{All-map}
use Rattle.period_rows.specs.declared.part.CellPart.{CellPart}
use Rattle.drift_chain.specs.declared.changes.ChangeFault.{ChangeFault}
use Rattle.drift_chain.specs.declared.changes.ChangeFault.TheVariants.{PeriodOutOfRange, CellOutOfRange, DoubleChange, BadRow, NoMemory}
use Rattle.period_rows.specs.Changes.{RowChange, change_at, IsSameChange, AreChanges, HaveRows}
use Rattle.std.specs.List.{AllZip}
use Rattle.drift_chain.specs.DriftRows.{IsDriftRow}
use Rattle.drift_chain.specs.ChangeFaults.{HasChangeFault, IsBadRow}
use Rattle.list_laws.proofs.Matched.{AllZip-both}
use Rattle.scenario_text.specs.State.{PeriodRow}
use Rattle.scenario_text.specs.Scenarios.{drift_change_of}
use Rattle.scenario_text.specs.Sound.{AreEntries, ArePeriodRows}
use Rattle.scenario_text.proofs.Ordered.{in_order_same}
use Rattle.scenario_text.proofs.Periods.{nothing, alone}
use Rattle.scenario_text.proofs.RowsInOrder.{cells_in_order, entries_in_order}

-- a right row has no fault
none_bad : (cells denominator : ℕ) (row : List CellPart) → AreEntries cells denominator row → IsBadRow denominator cells row → ⊥
none_bad cells denominator row h (inl out) =
    let lt = h.within out.0 out.1 out.2 in
    let same = ap (λ (e : CellPart). e.cell) out.3 in
    omega (arith, lt, same, out.4)
none_bad cells denominator row h (inr (inl zero)) =
    let some = h.positive zero.0 zero.1 zero.2 in
    let same = ap (λ (e : CellPart). e.part) zero.3 in
    omega (arith, some, same, zero.4)
none_bad cells denominator row h (inr (inr (inl double))) = omega (arith, double.1, h.once double.0)
none_bad cells denominator row h (inr (inr (inr wrong))) = wrong h.total

-- the change of a row, with its entries in order
abbrev pub change_in_order : PeriodRow → RowChange
change_in_order r = record { period = r.period; owner = r.own; row = cells_in_order r.row }

module _ (denominator cells last : ℕ) (rows : List PeriodRow) (h : ArePeriodRows last cells (AreEntries cells denominator) rows) (most : last ≤ 31) where
  given : List RowChange
  given = map drift_change_of rows

  inside : (i : ℕ) → i < length given → i < length rows
  unfolding given
  inside i lt = omega (arith, lt, length-map rows drift_change_of)

  at : (i : ℕ) → i < length rows → change_at given i ≡ drift_change_of (get_or rows i nothing)
  unfolding given change_at
  at i lt = get_or-map drift_change_of rows i nothing (record { period = 0; owner = 0; row = [] }) lt

  pub no_change_fault : (fault : ChangeFault) → HasChangeFault denominator cells (map drift_change_of rows) fault → ⊥
  unfolding given
  no_change_fault (PeriodOutOfRange i) bad =
      let lt = inside i bad.0 in
      let same = ap (λ (c : RowChange). c.period) (at i lt) in
      let span = h.periods i nothing lt in
      elim (bad.1) [ inl none ↦ omega (arith, none, same, span.0) | inr far ↦ omega (arith, far, same, span.1, most) ]
  no_change_fault (CellOutOfRange i) bad =
      let lt = inside i bad.0 in
      let same = ap (λ (c : RowChange). c.owner) (at i lt) in
      let within = h.within i nothing lt in
      omega (arith, bad.1, same, within)
  no_change_fault (DoubleChange i) bad =
      let lt = inside i bad.0 in
      let (k, before, (period, own)) = bad.1 in
      let there : k < length rows = omega (arith, before, lt) in
      let P : RowChange → ℕ = λ c. c.period in
      let O : RowChange → ℕ = λ c. c.owner in
      alone last cells (AreEntries cells denominator) rows h k i before lt (sym (ap P (at k there)) ∙ period ∙ ap P (at i lt)) (sym (ap O (at k there)) ∙ own ∙ ap O (at i lt))
  no_change_fault (BadRow i) bad =
      let lt = inside i bad.0 in
      let B : RowChange → Type 0 = λ c. IsBadRow denominator cells c.row in
      none_bad cells denominator (get_or rows i nothing).row (h.right i nothing lt) (subst B (at i lt) bad.1)
  no_change_fault NoMemory bad = bad

  pub same_in_order : AllZip IsSameChange (map drift_change_of rows) (map change_in_order rows)
  same_in_order = AllZip-both IsSameChange drift_change_of change_in_order (λ r. (refl, refl, in_order_same (λ e. e.cell) r.row)) rows

  pub changes_right : AreChanges 31 cells (map change_in_order rows)
  changes_right = record {
    within = All-map (λ (change : RowChange). (1 ≤ change.period) × (change.period ≤ 31) × (change.owner < cells)) change_in_order rows (λ i d lt.
        let span = h.periods i d lt in (span.0, omega (arith, span.1, most), h.within i d lt));
    differ = λ k i d before long same.
        let lt : i < length rows = omega (arith, long, length-map rows change_in_order) in
        let one = get_or-map change_in_order rows k nothing d (omega (arith, before, lt)) in
        let other = get_or-map change_in_order rows i nothing d lt in
        let P : RowChange → ℕ = λ c. c.period in
        let O : RowChange → ℕ = λ c. c.owner in
        alone last cells (AreEntries cells denominator) rows h k i before lt (sym (ap P one) ∙ same.0 ∙ ap P other) (sym (ap O one) ∙ same.1 ∙ ap O other);
  }

  pub rows_right : HaveRows (IsDriftRow denominator cells) (map change_in_order rows)
  rows_right = All-map (λ c. IsDriftRow denominator cells c.row) change_in_order rows (λ k d lt. entries_in_order cells denominator (get_or rows k d).row (h.right k d lt))
