-- A drift of the rows of period 1 and of those of later periods that differ from them.
use Rattle.std.proofs.Common.{◌≡◌, ℕ, ◌<◌, ◌≤◌, List, [], length, map, refl, sym, ap, ◌∙◌, arith, inl, inr, All, max}
use Rattle.std.specs.Prelude.{slice_index_or}
use Rattle.std.specs.List.{find, range_with_len}
use Rattle.std.specs.Option.{option_map_or}
use Rattle.std.proofs.lemmas.List.Elements.{All-contains}
use Rattle.std.proofs.lemmas.List.FromFn.{get_or-map-range_with_len, length-map-range_with_len}
use Rattle.list_laws.proofs.Firsts.{found_or_none}
use Rattle.period_rows.specs.declared.part.CellPart.{CellPart}
use Rattle.period_rows.specs.Changes.{RowChange, is_for, IsSameKey, AreChanges}
use Rattle.drift_chain.specs.DriftRows.{DriftRows, drift_cells, drift_over, drift_with, row_of, IsDriftRow, IsDrift}
use Rattle.period_rows.specs.Rows.{row_at, is_same_row}
use Rattle.drift_chain.proofs.Drifts.{IsDrift-from_rows}
use Rattle.drift_chain.specs.declared.changes.ChangeFault.{ChangeFault}
use Rattle.drift_chain.specs.ChangeFaults.{row_fault_of, IsBadRow, HasChangeFault}
use Rattle.drift_chain.proofs.ChangeFaults.{right_is_not_bad}
use Rattle.drift_chain.proofs.DriftChanges.{row_of-changed, row_of-base, changes_right as rows_right}
use Rattle.period_rows.proofs.ChangeFaults.{no_row_fault}
use Rattle.searcher_maps.specs.Differing.{change_to, later_changes}
use Rattle.period_rows.proofs.SameRows.{same_entries}
use Rattle.searcher_maps.proofs.Changed.{all_changes, pairs_of_changes, in_force, own, other, apart}

-- the changes of a right drift have no fault over its other rows
pub no_fault : (drift : DriftRows) (changes : List RowChange) → IsDrift (drift_with drift changes) → (fault : ChangeFault) → HasChangeFault drift.denominator (drift_cells drift) changes fault → ⊥
no_fault drift changes h fault =
    let g = drift.denominator in
    let cells = drift_cells drift in
    no_row_fault (IsDriftRow g cells) (IsBadRow g cells) (right_is_not_bad g cells) 31 cells changes h.changes (rows_right (drift_with drift changes) h) (row_fault_of fault)

module _ (drift : DriftRows) (h : IsDrift drift) where
  -- the rows of period 1
  abbrev pub first_rows : List (List CellPart)
  first_rows = map (row_of drift 1) (range_with_len 0 (drift_cells drift))

  pub as_many : length first_rows ≡ drift_cells drift
  as_many = length-map-range_with_len (row_of drift 1) 0 (drift_cells drift)

  first_at : (c : ℕ) → c < drift_cells drift → slice_index_or first_rows c [] ≡ row_of drift 1 c
  first_at c inside = get_or-map-range_with_len (row_of drift 1) 0 (drift_cells drift) c c [] inside (omega arith)

  pub IsDrift-first : IsDrift (drift_over drift.denominator first_rows)
  unfolding row_at
  IsDrift-first = IsDrift-from_rows drift.denominator first_rows (drift_cells drift) (sym as_many) h.denominator h.size (λ c inside. rw (first_at c inside) (h.each 1 c inside))

  module _ (end : ℕ) (few : end ≤ 32) where
    abbrev pub changes : List RowChange
    changes = later_changes (row_of drift) (drift_cells drift) end

    abbrev pub copied : DriftRows
    copied = record { denominator = drift.denominator; rows = first_rows; changes = changes }

    right_rows : All (λ change. IsDriftRow drift.denominator (drift_cells drift) change.row) changes
    right_rows = all_changes is_same_row change_to (row_of drift) (λ change. IsDriftRow drift.denominator (drift_cells drift) change.row) (drift_cells drift) end (λ t c low high inside. h.each t c inside)

    row_right : (t c : ℕ) → c < drift_cells drift → IsDriftRow drift.denominator (drift_cells drift) (row_of copied t c)
    row_right t c inside = elim (found_or_none (is_for t c) changes) [
      | inl (change, there, found) ↦
          rw (row_of-changed copied t c change found) (All-contains (λ change. IsDriftRow drift.denominator (drift_cells drift) change.row) changes change right_rows there)
      | inr none ↦ rw (row_of-base copied t c none, first_at c inside) (h.each 1 c inside)
    ]

    changes_right : AreChanges 31 (drift_cells drift) changes
    changes_right = record {
      within =
          all_changes is_same_row change_to (row_of drift) (λ change. (1 ≤ change.period) × (change.period ≤ 31) × (change.owner < drift_cells drift)) (drift_cells drift) end
          (λ t c low high inside. (omega (arith, low), omega (arith, high, few), inside));
      differ =
          pairs_of_changes is_same_row change_to (row_of drift) (λ change later. ¬ IsSameKey change later) (drift_cells drift) end
          (λ t c u d keys. apart t c u d (row_of drift t c) (row_of drift u d) keys);
    }

    pub IsDrift-copied : IsDrift copied
    IsDrift-copied = record {
      denominator = h.denominator;
      size = rw as_many h.size;
      each = rw as_many (λ t c inside. row_right t c inside);
      changes = rw as_many changes_right;
    }

    -- a drift of these parts
    pub assembled : (made : DriftRows) (denominator : ℕ) (rows : List (List CellPart)) (given : List RowChange) → made ≡ drift_over denominator rows → denominator ≡ drift.denominator →
        rows ≡ first_rows → given ≡ changes → drift_with made given ≡ copied
    assembled made denominator rows given is denominators same_rows same_changes =
        ap (λ (m : DriftRows). drift_with m given) is ∙ (λ i. record { denominator = denominators i; rows = same_rows i; changes = same_changes i })

    -- has the rows of the drift in each period before the end, and in period 1
    pub same_rows : (t c : ℕ) → 1 ≤ t → t < max 2 end → c < drift_cells drift → row_of copied t c ≡ row_of drift t c
    unfolding row_of
    same_rows t c some before inside =
        ap (option_map_or (λ (change : RowChange). change.row) (find (is_for t c) changes)) (first_at c inside)
        ∙ in_force is_same_row change_to (row_of drift) is_for (λ (change : RowChange). change.row) same_entries own other (λ u d row. refl) (drift_cells drift) end t c some before inside
