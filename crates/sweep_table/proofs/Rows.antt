-- Rows of looks: when they make a sweep, and when two lists of them are the same.
use Rattle.std.proofs.Common.{ℕ, ◌<◌, ◌≤◌, ◌≡◌, List, [], length, inl, inr}
use Rattle.std.specs.List.{AllZip}
use Rattle.std.specs.List.Sorted.{IsPermutation}
use Rattle.std.proofs.lemmas.List.{get_or_past}
use Rattle.std.proofs.lemmas.Bool.{cases_lt}
use Rattle.period_rows.specs.declared.part.CellPart.{CellPart}
use Rattle.period_rows.specs.Rows.{row_at}
use Rattle.period_rows.proofs.SameRows.{same_rows}
use Rattle.sweep_table.specs.LookParts.{look_row, looks_over, IsLookRow, IsSweep}
use Rattle.sweep_table.proofs.Factors.{empty_row}

-- a sweep's rows are right
pub right_rows : (g cells : ℕ) (rows : List (List CellPart)) → IsSweep (looks_over g cells rows) → (p : ℕ) → p < length rows → IsLookRow g cells (row_at rows p)
unfolding look_row row_at
right_rows g cells rows sweep p inside = sweep.each 1 p

-- and right rows make a sweep
pub IsSweep-from_rows : (g cells : ℕ) (rows : List (List CellPart)) → (1 ≤ g) × (g ≤ 1000000) → (1 ≤ length rows) × (length rows ≤ 200) → (1 ≤ cells) × (cells ≤ 200) →
    ((p : ℕ) → p < length rows → IsLookRow g cells (row_at rows p)) → IsSweep (looks_over g cells rows)
unfolding look_row row_at
IsSweep-from_rows g cells rows denominator positions count each = record {
  denominator = denominator;
  positions = positions;
  cells = count;
  each = λ t p. elim (cases_lt p (length rows)) [ inl inside ↦ each p inside | inr past ↦ rw (get_or_past rows p [] past) (empty_row g cells) ];
}

-- two sweeps over the same rows are the same
pub same_sweep : (g cells : ℕ) (given made : List (List CellPart)) → IsSweep (looks_over g cells given) → IsSweep (looks_over g cells made) → AllZip IsPermutation given made → made ≡ given
same_sweep g cells given made sweep sweep' same =
    same_rows given made same (λ p inside. (right_rows g cells given sweep p inside).ascending) (λ p inside. (right_rows g cells made sweep' p inside).ascending)
