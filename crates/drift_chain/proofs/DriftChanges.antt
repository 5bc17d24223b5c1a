-- Drifts with changes, change by change.
use Rattle.std.proofs.Common.{ℕ, ◌≡◌, ◌∙◌, Some, None, List, [], get_or, refl, sym, ap, slice_index_or, inl, inr}
use Rattle.std.proofs.lemmas.Bool.{eqb-true, eq-eqb, and_parts, and_from, false_from_ne_true}
use Rattle.std.proofs.lemmas.List.Elements.{All-contains}
use Rattle.std.specs.List.{find}
use Rattle.std.specs.Option.{option_map_or}
use Rattle.list_laws.proofs.Firsts.{find-first}
use Rattle.period_rows.specs.declared.part.CellPart.{CellPart}
use Rattle.period_rows.specs.Rows.{IsAscending}
use Rattle.period_rows.specs.Changes.{RowChange, is_for, row_in_force, AreChanges, HaveRows}
use Rattle.period_rows.proofs.FoundRows.{row_in_force-cases}
use Rattle.drift_chain.specs.DriftRows.{DriftRows, drift_cells, drift_with, row_of, IsDriftRow, IsDrift}

-- the row in force: that of the change that is found, or the cell's own
pub row_of-changed : (drift : DriftRows) (t c : ℕ) (change : RowChange) → find (is_for t c) drift.changes ≡ Some change → row_of drift t c ≡ change.row
unfolding row_of
row_of-changed drift t c change found = ap (λ told. option_map_or (λ change. change.row) told (slice_index_or drift.rows c [])) found

pub row_of-base : (drift : DriftRows) (t c : ℕ) → find (is_for t c) drift.changes ≡ None → row_of drift t c ≡ slice_index_or drift.rows c []
unfolding row_of
row_of-base drift t c found = ap (λ told. option_map_or (λ change. change.row) told (slice_index_or drift.rows c [])) found

-- out of its changes and the cell's own row
pub row_of-is : (drift : DriftRows) (t c : ℕ) (changes : List RowChange) (own : List CellPart) → drift.changes ≡ changes → slice_index_or drift.rows c [] ≡ own →
    row_in_force changes own t c ≡ row_of drift t c
unfolding row_of
row_of-is drift t c changes own are is = rw (are, is) refl

-- the rows of a drift's changes are right
pub changes_right : (drift : DriftRows) → IsDrift drift → HaveRows (IsDriftRow drift.denominator (drift_cells drift)) drift.changes
changes_right drift h i d inside =
    let change = get_or drift.changes i d in
    let within = h.changes.within i d inside in
    let found : find (is_for change.period change.owner) drift.changes ≡ Some change =
    find-first (is_for change.period change.owner) drift.changes i d inside
    (λ k before. false_from_ne_true _ (λ same. h.changes.differ k i d before inside (let parts = and_parts _ _ same in (eqb-true _ _ parts.0, eqb-true _ _ parts.1))))
    (and_from _ _ (eq-eqb change.period _ refl) (eq-eqb change.owner _ refl)) in
    rw (← row_of-changed drift change.period change.owner change found) (h.each change.period change.owner within.2)

-- and so they ascend
pub ascending_rows : (denominator cells : ℕ) (changes : List RowChange) → HaveRows (IsDriftRow denominator cells) changes → HaveRows IsAscending changes
ascending_rows denominator cells changes right = λ k d inside. (right k d inside).ascending

-- right changes of a drift without any make a drift
pub IsDrift-from_changes : (drift : DriftRows) (changes : List RowChange) → IsDrift drift → drift.changes ≡ [] → AreChanges 31 (drift_cells drift) changes →
    HaveRows (IsDriftRow drift.denominator (drift_cells drift)) changes → IsDrift (drift_with drift changes)
unfolding row_of
IsDrift-from_changes drift changes h plain are right = record {
  denominator = h.denominator;
  size = h.size;
  each = λ t c inside. elim (row_in_force-cases changes (slice_index_or drift.rows c []) t c) [
    | inl (change, there, is) ↦ rw is (All-contains (λ (change : RowChange). IsDriftRow drift.denominator (drift_cells drift) change.row) changes change right there)
    | inr is ↦
        let base : row_in_force drift.changes (slice_index_or drift.rows c []) t c ≡ slice_index_or drift.rows c [] = row_of-base drift t c (ap (find (is_for t c)) plain) in
        rw (is ∙ sym base) (h.each t c inside)
  ];
  changes = are;
}
