-- Footprints with changes, in place of the looks of a sweep without any.
use Rattle.std.proofs.Common.{ℕ, ◌≡◌, ◌∙◌, Some, List, [], length, ap, sym, subst, Vec, Global}
use Rattle.std.proofs.Math.ListN.{length-map}
use Rattle.std.specs.List.{AllZip}
use Rattle.period_rows.specs.declared.part.CellPart.{CellPart}
use Rattle.period_rows.specs.Rows.{IsAscending}
use Rattle.period_rows.specs.Changes.{RowChange, IsSameChange, HaveRows}
use Rattle.period_rows.proofs.SameRows.{same_changes}
use Rattle.sweep_table.specs.declared.changes.LookChangeFault.{LookChangeFault}
use Rattle.sweep_table.specs.declared.table.Looks.{Looks}
use Rattle.sweep_table.specs.declared.footprints.Footprints.{Footprints as Prints}
use Rattle.sweep_table.specs.LookParts.{LookParts, cells_of, positions_of, IsLookRow, IsSweep}
use Rattle.sweep_table.specs.Changes.{with_changes, HasChangeFault}
use Rattle.sweep_table.specs.Forms.{seen, prints_seen}
use Rattle.sweep_table.proofs.Changed.{IsSweep-with_changes, ascending_from_right}

-- footprints with these changes
abbrev pub prints_with : Prints → List RowChange → Prints
prints_with prints changes = record { cells = prints.cells; rows = prints.rows; changes = Some changes }

module _ (g : ℕ) (looks : Looks) (self : LookParts) (view : seen g looks ≡ self) (prints : Prints) (alike : (d : ℕ) → prints_seen d prints ≡ seen d looks) (changes : List RowChange) where
  base : prints_seen g prints ≡ self
  base = alike g ∙ view

  made_seen : prints_seen g (prints_with prints changes) ≡ with_changes self changes
  made_seen = ap (λ (s : LookParts). with_changes s changes) base

  pub made_faultless : (given : List RowChange) (n : ℕ) → n ≡ length prints.rows.items → ((fault : LookChangeFault) → HasChangeFault g prints.cells n given fault → ⊥) →
      (fault : LookChangeFault) → HasChangeFault self.denominator (cells_of self) (positions_of self) given fault → ⊥
  made_faultless given n size none fault has =
      let here : HasChangeFault g prints.cells (positions_of (prints_seen g prints)) given fault = subst (λ (s : LookParts). HasChangeFault s.denominator (cells_of s) (positions_of s) given fault) (sym base) has in
      none fault (subst (λ m. HasChangeFault g prints.cells m given fault) (length-map prints.rows.items (λ (row : Vec CellPart Global). row.items) ∙ sym size) here)

  module _ (right : HaveRows (IsLookRow g prints.cells) changes) where
    pub made_right : HaveRows (IsLookRow self.denominator (cells_of self)) changes
    made_right = subst (λ (s : LookParts). HaveRows (IsLookRow s.denominator (cells_of s)) changes) base right

    pub made_sound : IsSweep (seen g looks) → self.changes ≡ [] → IsSweep (prints_seen g (prints_with prints changes))
    made_sound sound none = subst IsSweep (sym made_seen) (IsSweep-with_changes self none (subst IsSweep view sound) changes made_right)

    pub made_same : (given : List RowChange) → AllZip IsSameChange given changes → HaveRows IsAscending given → prints_seen g (prints_with prints changes) ≡ with_changes self given
    made_same given same up = made_seen ∙ ap (with_changes self) (same_changes given changes same up (ascending_from_right g prints.cells changes right))
