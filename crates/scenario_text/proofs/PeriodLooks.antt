-- The look rows, and those of single periods, are right rows and right changes of a sweep.
use Rattle.std.proofs.Common.{◌≡◌, ℕ, ◌<◌, ◌≤◌, cond, List, [], map, length, get_or, Option, Some, None, refl, sym, ap, ◌∙◌, arith, subst, inl, inr}
use Rattle.std.specs.Prelude.{◌==◌, count_by, unwrap_or, All}
use Rattle.std.specs.List.{AllZip}
use Rattle.std.specs.List.Sorted.{IsPermutation}
use Rattle.std.proofs.lemmas.List.{length-map, get_or-map}
use Rattle.std.proofs.lemmas.List.Elements.{All-map, All-nil}
use Rattle.std.proofs.lemmas.List.Sorted.{IsPermutation-map}
use Rattle.period_rows.specs.declared.part.CellPart.{CellPart}
use Rattle.sweep_table.specs.declared.faults.LookFault.{LookFault}
use Rattle.sweep_table.specs.declared.faults.LookFault.TheVariants as looks
use Rattle.sweep_table.specs.declared.changes.LookChangeFault.{LookChangeFault}
use Rattle.sweep_table.specs.declared.changes.LookChangeFault.TheVariants.{PeriodOutOfRange, PositionOutOfRange, DoubleChange, BadRow, NoMemory}
use Rattle.period_rows.specs.Changes.{RowChange, change_at, HaveRows, IsSameChange}
use Rattle.sweep_table.specs.LookParts.{looks_over, misses, IsLookRow, IsSweep}
use Rattle.period_rows.specs.Rows.{row_at, HasDouble}
use Rattle.sweep_table.specs.Faults.{HasFault, HasOut, HasOver}
use Rattle.sweep_table.specs.Changes.{HasChangeFault, IsBadRow}
use Rattle.period_rows.proofs.SameRows.{row_at-map}
use Rattle.sweep_table.proofs.Rows.{IsSweep-from_rows}
use Rattle.list_laws.proofs.Matched.{AllZip-both}
use Rattle.list_laws.proofs.Sums.{sum_by-map}
use Rattle.scenario_text.specs.State.{PeriodRow}
use Rattle.scenario_text.specs.Scenarios.{look_parts, look_change_of}
use Rattle.scenario_text.specs.Sound.{AreLooks, ArePeriodRows, IsLook}
use Rattle.scenario_text.proofs.Ordered.{in_order_same}
use Rattle.scenario_text.proofs.Periods.{nothing, alone}
use Rattle.scenario_text.proofs.RowsInOrder.{cells_in_order, looks_in_order}

-- a right row has no fault
module _ (cells denominator : ℕ) (row : List CellPart) (h : AreLooks cells denominator row) where
  pub not_out : HasOut cells (look_parts row) → ⊥
  not_out out =
      let within = All-map (λ x. x.cell < cells) (λ e. misses e.cell e.part) row h.within in
      let lt = within out.0 out.1 out.2 in
      let same = ap (λ (x : CellPart). x.cell) out.3 in
      omega (arith, lt, same, out.4)

  pub not_double : HasDouble (look_parts row) → ⊥
  not_double double =
      let same : count_by (λ x. x.cell == double.0) (look_parts row) ≡ count_by (λ e. e.cell == double.0) row = sum_by-map (λ (x : CellPart). cond (x.cell == double.0) 1 0) (λ e. misses e.cell e.part) row in
      omega (arith, double.1, same, h.once double.0)

  pub not_over : HasOver denominator (look_parts row) → ⊥
  not_over over =
      let within = All-map (λ x. x.part ≤ denominator) (λ e. misses e.cell e.part) row h.parts in
      let le = within over.0 over.1 over.2 in
      let same = ap (λ (x : CellPart). x.part) over.3 in
      omega (arith, le, same, over.4)

  pub none_bad : IsBadRow denominator cells (look_parts row) → ⊥
  none_bad (inl out) = not_out out
  none_bad (inr (inl double)) = not_double double
  none_bad (inr (inr over)) = not_over over

-- a row that wasn't read is empty
given_look : (cells denominator : ℕ) (o : Option (List CellPart)) → IsLook cells denominator o → AreLooks cells denominator (unwrap_or o [])
given_look cells denominator None h = record { within = All-nil (λ e. e.cell < cells); parts = All-nil (λ e. e.part ≤ denominator); once = λ d. omega arith }
given_look cells denominator (Some row) h = h

abbrev base_row : Option (List CellPart) → List CellPart
base_row o = look_parts (unwrap_or o [])

abbrev pub row_in_order : Option (List CellPart) → List CellPart
row_in_order o = look_parts (cells_in_order (unwrap_or o []))

module _ (cells denominator : ℕ) (rows : List (Option (List CellPart))) (h : All (IsLook cells denominator) rows) (some : 1 ≤ length rows) (few : length rows ≤ 200) (some_cell : 1 ≤ cells) (few_cells : cells ≤ 200) where
  rows_given : List (List CellPart)
  rows_given = map base_row rows

  long : length rows_given ≡ length rows
  unfolding rows_given
  long = length-map rows base_row

  row_given : (p : ℕ) → p < length rows → AreLooks cells denominator (unwrap_or (get_or rows p None) [])
  row_given p lt = given_look cells denominator (get_or rows p None) (h p None lt)

  given_at : (p : ℕ) → p < length rows → row_at rows_given p ≡ base_row (get_or rows p None)
  unfolding rows_given
  given_at p lt = row_at-map base_row rows p None lt

  pub no_look_fault : (fault : LookFault) → HasFault denominator cells (map (λ o. look_parts (unwrap_or o [])) rows) fault → ⊥
  unfolding rows_given
  no_look_fault looks.Count (inl (inl none)) = omega (arith, none, long, some)
  no_look_fault looks.Count (inl (inr many)) = omega (arith, many, long, few)
  no_look_fault looks.Count (inr (inl none)) = omega (arith, none, some_cell)
  no_look_fault looks.Count (inr (inr many)) = omega (arith, many, few_cells)
  no_look_fault (looks.OutOfRange p) bad =
      let lt : p < length rows = omega (arith, bad.0, long) in
      not_out cells denominator (unwrap_or (get_or rows p None) []) (row_given p lt) (subst (HasOut cells) (given_at p lt) bad.1)
  no_look_fault (looks.DoubleEntry p) bad =
      let lt : p < length rows = omega (arith, bad.0, long) in
      not_double cells denominator (unwrap_or (get_or rows p None) []) (row_given p lt) (subst HasDouble (given_at p lt) bad.1)
  no_look_fault (looks.PartOver p) bad =
      let lt : p < length rows = omega (arith, bad.0, long) in
      not_over cells denominator (unwrap_or (get_or rows p None) []) (row_given p lt) (subst (HasOver denominator) (given_at p lt) bad.1)
  no_look_fault looks.NoMemory bad = bad

  pub rows_same : AllZip IsPermutation (map (λ o. look_parts (unwrap_or o [])) rows) (map row_in_order rows)
  rows_same =
      AllZip-both IsPermutation base_row row_in_order (λ o. IsPermutation-map (λ e. misses e.cell e.part) (unwrap_or o []) (cells_in_order (unwrap_or o [])) (in_order_same (λ e. e.cell) (unwrap_or o []))) rows

  pub rows_right : (1 ≤ denominator) × (denominator ≤ 1000000) → IsSweep (looks_over denominator cells (map row_in_order rows))
  rows_right limits =
      let size = length-map rows row_in_order in
      IsSweep-from_rows denominator cells (map row_in_order rows) limits (omega (arith, size, some), omega (arith, size, few)) (some_cell, few_cells) (λ p lt.
      let there : p < length rows = omega (arith, lt, size) in
      rw (row_at-map row_in_order rows p None there) (looks_in_order cells denominator (unwrap_or (get_or rows p None) []) (row_given p there)))

-- the change of a row, with its entries in order
abbrev pub change_in_order : PeriodRow → RowChange
change_in_order r = record { period = r.period; owner = r.own; row = look_parts (cells_in_order r.row) }

module _ (denominator cells positions last : ℕ) (rows : List PeriodRow) (h : ArePeriodRows last positions (AreLooks cells denominator) rows) (most : last ≤ 32) where
  given : List RowChange
  given = map look_change_of rows

  inside : (i : ℕ) → i < length given → i < length rows
  unfolding given
  inside i lt = omega (arith, lt, length-map rows look_change_of)

  at : (i : ℕ) → i < length rows → change_at given i ≡ look_change_of (get_or rows i nothing)
  unfolding given change_at
  at i lt = get_or-map look_change_of rows i nothing (record { period = 0; owner = 0; row = [] }) lt

  pub no_change_fault : (fault : LookChangeFault) → HasChangeFault denominator cells positions (map look_change_of rows) fault → ⊥
  unfolding given
  no_change_fault (PeriodOutOfRange i) bad =
      let lt = inside i bad.0 in
      let same = ap (λ (c : RowChange). c.period) (at i lt) in
      let span = h.periods i nothing lt in
      elim (bad.1) [ inl none ↦ omega (arith, none, same, span.0) | inr far ↦ omega (arith, far, same, span.1, most) ]
  no_change_fault (PositionOutOfRange i) bad =
      let lt = inside i bad.0 in
      let same = ap (λ (c : RowChange). c.owner) (at i lt) in
      let within = h.within i nothing lt in
      omega (arith, bad.1, same, within)
  no_change_fault (DoubleChange i) bad =
      let lt = inside i bad.0 in
      let (k, before, (period, position)) = bad.1 in
      let there : k < length rows = omega (arith, before, lt) in
      let P : RowChange → ℕ = λ c. c.period in
      let O : RowChange → ℕ = λ c. c.owner in
      alone last positions (AreLooks cells denominator) rows h k i before lt (sym (ap P (at k there)) ∙ period ∙ ap P (at i lt)) (sym (ap O (at k there)) ∙ position ∙ ap O (at i lt))
  no_change_fault (BadRow i) bad =
      let lt = inside i bad.0 in
      let B : RowChange → Type 0 = λ c. IsBadRow denominator cells c.row in
      none_bad cells denominator (get_or rows i nothing).row (h.right i nothing lt) (subst B (at i lt) bad.1)
  no_change_fault NoMemory bad = bad

  pub changes_same : AllZip IsSameChange (map look_change_of rows) (map change_in_order rows)
  changes_same =
      AllZip-both IsSameChange look_change_of change_in_order (λ r. (refl, refl, IsPermutation-map (λ e. misses e.cell e.part) r.row (cells_in_order r.row) (in_order_same (λ e. e.cell) r.row))) rows

  pub changes_right : HaveRows (IsLookRow denominator cells) (map change_in_order rows)
  changes_right = All-map (λ c. IsLookRow denominator cells c.row) change_in_order rows (λ k d lt. looks_in_order cells denominator (get_or rows k d).row (h.right k d lt))
