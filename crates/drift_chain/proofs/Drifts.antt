-- Drifts, row by row.
use Rattle.std.proofs.Common.{ℕ, ◌<◌, ◌≤◌, ◌≡◌, List, [], length, arith}
use Rattle.std.specs.List.{AllZip}
use Rattle.std.specs.List.Sorted.{IsPermutation}
use Rattle.std.proofs.lemmas.List.Elements.{All-nil}
use Rattle.period_rows.specs.declared.part.CellPart.{CellPart}
use Rattle.period_rows.specs.Rows.{row_at}
use Rattle.period_rows.specs.Changes.{AreChanges}
use Rattle.period_rows.proofs.SameRows.{same_rows}
use Rattle.drift_chain.specs.DriftRows.{row_of, drift_over, IsDriftRow, IsDrift}

-- no change at all
pub AreChanges-none : (cells : ℕ) → AreChanges 31 cells []
AreChanges-none cells = record { within = All-nil _; differ = λ i j d before none. absurd (omega arith) }

-- a drift's rows are right
pub right_rows : (denominator : ℕ) (rows : List (List CellPart)) → IsDrift (drift_over denominator rows) → (c : ℕ) → c < length rows → IsDriftRow denominator (length rows) (row_at rows c)
unfolding row_of row_at
right_rows denominator rows drift c inside = drift.each 1 c inside

-- and right rows make a drift, out of rows that are so many
pub IsDrift-from_rows : (denominator : ℕ) (rows : List (List CellPart)) (n : ℕ) → n ≡ length rows → (1 ≤ denominator) × (denominator ≤ 1000000) → (1 ≤ n) × (n ≤ 200) →
    ((c : ℕ) → c < n → IsDriftRow denominator n (row_at rows c)) → IsDrift (drift_over denominator rows)
unfolding row_of row_at
IsDrift-from_rows denominator rows n size bounds count each = record {
  denominator = bounds;
  size = rw (← size) count;
  each = λ t c inside. rw (← size) (each c (rw size inside));
  changes = AreChanges-none (length rows);
}

-- two drifts over one denominator with the same entries are the same
pub same_drift : (denominator : ℕ) (given made : List (List CellPart)) → IsDrift (drift_over denominator given) → IsDrift (drift_over denominator made) → AllZip IsPermutation given made → made ≡ given
same_drift denominator given made drift drift' same =
    same_rows given made same (λ c inside. (right_rows denominator given drift c inside).ascending) (λ c inside. (right_rows denominator made drift' c inside).ascending)
