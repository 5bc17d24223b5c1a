-- A table of the rows of looks of period 1 and of those of later periods that differ from them.
use Rattle.std.proofs.Common.{◌≡◌, ℕ, ◌+◌, ◌-◌, ◌<◌, ◌≤◌, List, [], length, get_or, refl, sym, ap, subst, ◌∙◌, arith, Vec, Global}
use Rattle.std.specs.Prelude.{slice_index_or}
use Rattle.std.proofs.lemmas.List.{length-map}
use Rattle.period_rows.specs.declared.part.CellPart.{CellPart}
use Rattle.sweep_table.specs.declared.changes.LookChangeFault.{LookChangeFault}
use Rattle.period_rows.specs.Changes.{RowChange, is_for, IsSameKey, AreChanges, HaveRows}
use Rattle.sweep_table.specs.LookParts.{LookParts, positions_of, cells_of, look_row, looks_over, IsLookRow, IsSweep}
use Rattle.period_rows.specs.Rows.{row_at, IsAscending, is_same_row}
use Rattle.period_rows.proofs.ChangeFaults.{no_row_fault}
use Rattle.sweep_table.specs.Changes.{with_changes, row_fault_of, IsBadRow, HasChangeFault}
use Rattle.sweep_table.proofs.Changed.{ascending_from_right}
use Rattle.sweep_table.proofs.NamedFaults.{none_bad}
use Rattle.sweep_table.proofs.Rows.{IsSweep-from_rows}
use Rattle.searcher_maps.specs.Periods.{rows_by_period, positions_given, row_given, AreLookRows}
use Rattle.searcher_maps.specs.Differing.{change_to, later_changes}
use Rattle.period_rows.proofs.SameRows.{same_entries}
use Rattle.searcher_maps.proofs.Changed.{all_changes, pairs_of_changes, in_force, own, other, apart}
use Rattle.searcher_maps.proofs.GivenRows.{rows_in, period_at}

-- what is asked of the rows that are given
pub record AreGiven (g cells : ℕ) (given : List (List (List CellPart))) : Type 0 where
  pub denominator : (1 ≤ g) × (g ≤ 1000000)
  pub count : (1 ≤ cells) × (cells ≤ 200)
  pub rows : AreLookRows g cells given

module _ (g cells : ℕ) (given : List (List (List CellPart))) (h : AreGiven g cells given) where
  row_right : (t a : ℕ) → 1 ≤ t → t ≤ length given → a < positions_given given → IsLookRow g cells (row_given given t a)
  row_right t a some last inside =
      let there : t - 1 < length given = omega (arith, some, last) in
      let long : length (slice_index_or given (t - 1) []) ≡ positions_given given = h.rows.same (t - 1) [] there in
      h.rows.right (t - 1) [] there a [] (omega (arith, long, inside))

  abbrev pub base_rows : List (List CellPart)
  base_rows = slice_index_or given 0 []

  pub IsSweep-base : IsSweep (looks_over g cells base_rows)
  unfolding row_at
  IsSweep-base = IsSweep-from_rows g cells base_rows h.denominator h.rows.positions h.count (λ a inside. row_right 1 a (omega arith) (omega (arith, h.rows.periods)) inside)

  abbrev pub changes : List RowChange
  changes = later_changes (row_given given) (positions_given given) (length given + 1)

  right_rows : HaveRows (IsLookRow g cells) changes
  right_rows =
      all_changes is_same_row change_to (row_given given) (λ change. IsLookRow g cells change.row) (positions_given given) (length given + 1)
      (λ t a low high inside. row_right t a (omega (arith, low)) (omega (arith, high)) inside)

  pub ascending : HaveRows IsAscending changes
  ascending = ascending_from_right g cells changes right_rows

  changes_right : AreChanges 32 (positions_given given) changes
  changes_right = record {
    within =
        all_changes is_same_row change_to (row_given given) (λ change. (1 ≤ change.period) × (change.period ≤ 32) × (change.owner < positions_given given)) (positions_given given) (length given + 1)
        (λ t a low high inside. (omega (arith, low), omega (arith, high, h.rows.periods), inside));
    differ =
        pairs_of_changes is_same_row change_to (row_given given) (λ change later. ¬ IsSameKey change later) (positions_given given) (length given + 1)
        (λ t a u b keys. apart t a u b (row_given given t a) (row_given given u b) keys);
  }

  -- the changes have no fault over a table of the rows of period 1
  pub faultless : (made : LookParts) (rows : List (List CellPart)) (changed : List RowChange) → made ≡ looks_over g cells rows → rows ≡ base_rows → changed ≡ changes → (fault : LookChangeFault) →
      HasChangeFault made.denominator (cells_of made) (positions_of made) changed fault → ⊥
  faultless made rows changed is base same fault has =
      let over : made ≡ looks_over g cells base_rows = is ∙ ap (looks_over g cells) base in
      let here : HasChangeFault g cells (positions_given given) changed fault = subst (λ (m : LookParts). HasChangeFault m.denominator (cells_of m) (positions_of m) changed fault) over has in
      no_row_fault (IsLookRow g cells) (IsBadRow g cells) (none_bad g cells) 32 (positions_given given) changes changes_right right_rows (row_fault_of fault)
      (subst (λ (cs : List RowChange). HasChangeFault g cells (positions_given given) cs fault) same here)

  -- those that the code makes of the rows
  pub made_changes : (periods slice : List (Vec (Vec CellPart Global) Global)) (first : Vec (Vec CellPart Global) Global) (positions : ℕ) (changed : List RowChange) → rows_by_period periods ≡ given →
      slice ≡ periods → first ≡ get_or periods 0 first → positions ≡ length first.items → changed ≡ later_changes (row_given (rows_by_period slice)) positions (length slice + 1) → changed ≡ changes
  made_changes periods slice first positions changed view same there as_many is =
      let size : length given ≡ length periods = sym (ap length view) ∙ length-map periods rows_in in
      let inside : 0 < length periods = omega (arith, size, h.rows.periods) in
      let all : length first.items ≡ positions_given given = sym (length-map first.items (λ (row : Vec CellPart Global). row.items)) ∙ ap length (sym (period_at periods 0 first inside there) ∙ ap (λ (rows : List (List (List CellPart))). slice_index_or rows 0 []) view) in
      let long : length slice + 1 ≡ length given + 1 = omega (arith, size, ap length same) in
      is ∙ ap (λ (rows : List (List (List CellPart))). later_changes (row_given rows) positions (length slice + 1)) (ap rows_by_period same ∙ view)
      ∙ ap (λ n. later_changes (row_given given) n (length slice + 1)) (as_many ∙ all) ∙ ap (λ n. later_changes (row_given given) (positions_given given) n) long

  abbrev pub looked : LookParts
  looked = record { denominator = g; cells = cells; rows = base_rows; changes = changes }

  pub assembled : (made : LookParts) (rows : List (List CellPart)) (changed : List RowChange) → made ≡ looks_over g cells rows → rows ≡ base_rows → changed ≡ changes → with_changes made changed ≡ looked
  assembled made rows changed is base same =
      ap (λ (m : LookParts). with_changes m changed) is ∙ (λ i. record { denominator = g; cells = cells; rows = base i; changes = same i })

  -- the table has the given rows
  pub same_rows : (t a : ℕ) → 1 ≤ t → t ≤ length given → a < positions_given given → look_row looked t a ≡ row_given given t a
  unfolding look_row
  same_rows t a some last inside =
      in_force is_same_row change_to (row_given given) is_for (λ (change : RowChange). change.row) same_entries own other (λ u b row. refl) (positions_given given) (length given + 1) t a some
      (omega (arith, some, last)) inside
