-- What contracts see of a sweep, by the form that it has.
use Rattle.std.proofs.Common.{ℕ, ◌<◌, ◌≡◌, ◌∙◌, List, [], length, get_or, slice_index_or, unwrap_or, ap, sym, subst, arith, Vec, Global}
use Rattle.std.proofs.Math.ListN.{length-map}
use Rattle.std.proofs.lemmas.List.{get_or-map}
use Rattle.period_rows.specs.declared.part.CellPart.{CellPart}
use Rattle.period_rows.specs.Rows.{IsAscending}
use Rattle.period_rows.specs.Changes.{RowChange, row_in_force}
use Rattle.sweep_table.specs.declared.table.Looks.{Looks}
use Rattle.sweep_table.specs.declared.footprints.Footprints.{Footprints as Prints}
use Rattle.sweep_table.specs.declared.table.Looks.TheVariants.{Plain, Footprints}
use Rattle.sweep_table.specs.LookParts.{LookParts, positions_of, look_row, parts_over, IsSweep}
use Rattle.sweep_table.specs.Forms.{seen, prints_seen}
use Rattle.sweep_table.proofs.Factors.{length-own_rows}

module _ (g : ℕ) (looks : Looks) (now : LookParts) (view : seen g looks ≡ now) where
  -- plain looks
  module _ (overlook : Vec ℕ Global) (form : looks ≡ Plain overlook) where
    pub plain-seen : now ≡ parts_over g overlook.items
    plain-seen = sym view ∙ ap (seen g) form

    pub plain-inside : (p : ℕ) → p < positions_of now → p < length overlook.items
    plain-inside p position = omega (arith, ap positions_of plain-seen, length-own_rows overlook.items)

  -- footprints
  module _ (prints : Prints) (form : looks ≡ Footprints prints) where
    pub prints-seen : now ≡ prints_seen g prints
    prints-seen = sym view ∙ ap (seen g) form

    pub prints-inside : (p : ℕ) → p < positions_of now → p < length prints.rows.items
    prints-inside p position = omega (arith, ap positions_of prints-seen, length-map prints.rows.items (λ (row : Vec CellPart Global). row.items))

    -- a row in force ascends
    pub prints-ascending : IsSweep (seen g looks) → (t p : ℕ) (row : List CellPart) → row ≡ look_row (prints_seen g prints) t p → IsAscending row
    prints-ascending sound t p row is =
        let here : IsSweep (prints_seen g prints) = subst (λ l. IsSweep (seen g l)) form sound in
        rw is (here.each t p).ascending

-- the row in force of footprints, from the base row that the code reads
module _ (g : ℕ) (prints : Prints) (t p : ℕ) (row : Vec CellPart Global) (inside : p < length prints.rows.items) (read : row ≡ get_or prints.rows.items p row) where
  base_row : row.items ≡ slice_index_or (prints_seen g prints).rows p []
  base_row = ap (λ (r : Vec CellPart Global). r.items) read ∙ sym (get_or-map (λ (r : Vec CellPart Global). r.items) prints.rows.items p row [] inside)

  pub prints-row : (base : List CellPart) → base ≡ row.items → (changes : List RowChange) → unwrap_or prints.changes [] ≡ changes → row_in_force changes base t p ≡ look_row (prints_seen g prints) t p
  unfolding look_row
  prints-row base is changes told =
      ap (λ (cs : List RowChange). row_in_force cs base t p) (sym told) ∙ ap (λ (b : List CellPart). row_in_force (unwrap_or prints.changes []) b t p) (is ∙ base_row)
