-- Sweeps whose looks change in single periods.
use Rattle.std.proofs.Common.{ℕ, ◌≤◌, ◌≡◌, ◌∙◌, Option, Some, None, IfSome, IfNone, ap, arith, List, [], slice_index_or, refl, sym, subst, inl, inr}
use Rattle.std.proofs.lemmas.List.Elements.{All-contains}
use Rattle.period_rows.specs.Rows.{IsAscending}
use Rattle.period_rows.specs.Changes.{RowChange, HaveRows}
use Rattle.period_rows.proofs.FoundRows.{row_in_force-cases}
use Rattle.sweep_table.specs.LookParts.{LookParts, look_row, factor_in, factor_of, cells_of, IsLookRow, IsSweep, IsOneRate}
use Rattle.sweep_table.specs.Changes.{with_changes}

module _ (sweep : LookParts) (none : sweep.changes ≡ []) where
  -- without changes the base row is in force
  base_row : (t p : ℕ) → look_row sweep t p ≡ slice_index_or sweep.rows p []
  unfolding look_row
  base_row t p = rw none refl

  -- so a factor is the same in every period
  steady_factor : (t u p c : ℕ) → factor_of sweep t p c ≡ factor_of sweep u p c
  unfolding factor_of
  steady_factor t u p c = ap (λ row. factor_in sweep.denominator row c) (base_row t p ∙ sym (base_row u p))

  -- and the one rate of all periods is that of the first
  steady_rate : (horizon rate : ℕ) → 1 ≤ horizon → IsOneRate sweep 1 rate → IsOneRate sweep horizon rate
  steady_rate horizon rate some one = record {
    either = λ t p c first last position cell. rw (steady_factor t 1 p c) (one.either 1 p c (omega arith) (omega arith) position cell);
    least = λ t p c first last position cell. rw (steady_factor t 1 p c) (one.least 1 p c (omega arith) (omega arith) position cell);
    reached = let (t, p, c, first, last, position, cell, here) = one.reached in (t, p, c, first, omega (arith, last, some), position, cell, here);
  }

  rate_of_first : (horizon rate : ℕ) → 1 ≤ horizon → IsOneRate sweep horizon rate → IsOneRate sweep 1 rate
  rate_of_first horizon rate some one = record {
    either = λ t p c first last position cell. one.either t p c first (omega (arith, last, some)) position cell;
    least = λ t p c first last position cell. one.least t p c first (omega (arith, last, some)) position cell;
    reached = let (t, p, c, first, last, position, cell, here) = one.reached in (1, p, c, omega arith, omega arith, position, cell, steady_factor 1 t p c ∙ here);
  }

  -- so what is told of the first period is told of all
  pub steady_some : (horizon : ℕ) → 1 ≤ horizon → (o : Option ℕ) → IfSome o (IsOneRate sweep 1) → IfSome o (IsOneRate sweep horizon)
  steady_some horizon some None told = told
  steady_some horizon some (Some rate) told = steady_rate horizon rate some told

  pub steady_none : (horizon : ℕ) → 1 ≤ horizon → (o : Option ℕ) → IfNone o ((rate : ℕ) → IsOneRate sweep 1 rate → ⊥) → IfNone o ((rate : ℕ) → IsOneRate sweep horizon rate → ⊥)
  steady_none horizon some None none = λ rate one. none rate (rate_of_first horizon rate some one)
  steady_none horizon some (Some rate) told = told

  -- right changes keep a sweep
  pub IsSweep-with_changes : IsSweep sweep → (changes : List RowChange) → HaveRows (IsLookRow sweep.denominator (cells_of sweep)) changes → IsSweep (with_changes sweep changes)
  unfolding look_row
  IsSweep-with_changes sound changes right = record {
    denominator = sound.denominator;
    positions = sound.positions;
    cells = sound.cells;
    each = λ t p. elim (row_in_force-cases changes (slice_index_or sweep.rows p []) t p) [
      | inl (change, there, is) ↦ rw is (All-contains (λ c. IsLookRow sweep.denominator (cells_of sweep) c.row) changes change right there)
      | inr is ↦ rw is (subst (IsLookRow sweep.denominator (cells_of sweep)) (base_row t p) (sound.each t p))
    ];
  }

-- right rows ascend
pub ascending_from_right : (g cells : ℕ) (changes : List RowChange) → HaveRows (IsLookRow g cells) changes → HaveRows IsAscending changes
ascending_from_right g cells changes right = λ k d inside. (right k d inside).ascending
