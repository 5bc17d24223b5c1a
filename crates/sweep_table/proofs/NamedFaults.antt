-- Which fault of rows is named.
use Rattle.std.proofs.Common.{ℕ, ◌+◌, ◌<◌, ◌≤◌, ◌≡◌, List, length, arith, All, inl, inr}
use Rattle.std.specs.List.{AllZip}
use Rattle.std.specs.List.Sorted.{IsPermutation}
use Rattle.std.proofs.lemmas.Bool.{cases_lt, cases_eq}
use Rattle.std.proofs.lemmas.List.Elements.{length_all_zip}
use Rattle.std.proofs.lemmas.List.Sorted.{IsPermutation-sym}
use Rattle.list_laws.proofs.FirstFaults.{named_first}
use Rattle.list_laws.proofs.Matched.{AllZip-flip}
use Rattle.list_laws.proofs.Reordered.{Any-permutation, none_fails}
use Rattle.period_rows.specs.declared.part.CellPart.{CellPart}
use Rattle.period_rows.specs.Rows.{row_at, IsAscending}
use Rattle.period_rows.proofs.SameRows.{HasDouble-permutation, none_double, row_at-same}
use Rattle.sweep_table.specs.declared.faults.LookFault.{LookFault}
use Rattle.sweep_table.specs.declared.faults.LookFault.TheVariants.{Count, OutOfRange, DoubleEntry, PartOver, NoMemory}
use Rattle.sweep_table.specs.LookParts.{looks_over, IsLookRow, IsSweep}
use Rattle.sweep_table.specs.Faults.{HasOut, HasOver, HasWrongSizes, HasFault, rank_of, IsFirstFault, IsFirstOfRow}
use Rattle.sweep_table.specs.Changes.{IsBadRow}
use Rattle.sweep_table.proofs.Rows.{right_rows}

HasWrongSizes-same : (cells : ℕ) (given made : List (List CellPart)) → length given ≡ length made → HasWrongSizes cells given → HasWrongSizes cells made
HasWrongSizes-same cells given made size has = rw (← size) has

HasFault-same : (g cells : ℕ) (given made : List (List CellPart)) → AllZip IsPermutation given made → (fault : LookFault) → HasFault g cells given fault → HasFault g cells made fault
HasFault-same g cells given made same Count has = HasWrongSizes-same cells given made (length_all_zip IsPermutation given made same) has
HasFault-same g cells given made same (OutOfRange p) has =
    (rw (← length_all_zip IsPermutation given made same) has.0, Any-permutation (λ entry. cells ≤ entry.cell) _ _ (row_at-same given made same p has.0) has.1)
HasFault-same g cells given made same (DoubleEntry p) has = (rw (← length_all_zip IsPermutation given made same) has.0, HasDouble-permutation _ _ (row_at-same given made same p has.0) has.1)
HasFault-same g cells given made same (PartOver p) has =
    (rw (← length_all_zip IsPermutation given made same) has.0, Any-permutation (λ entry. g < entry.part) _ _ (row_at-same given made same p has.0) has.1)
HasFault-same g cells given made same NoMemory has = has

-- rows in order have the same first fault as before
pub IsFirstFault-same : (g cells : ℕ) (given made : List (List CellPart)) → AllZip IsPermutation given made → (fault : LookFault) → IsFirstFault g cells made fault → IsFirstFault g cells given fault
IsFirstFault-same g cells given made same fault first = record {
  there = HasFault-same g cells made given (AllZip-flip IsPermutation IsPermutation (λ xs ys. IsPermutation-sym xs ys) given made same) fault first.there;
  first = λ other has. first.first other (HasFault-same g cells given made same other has);
}

-- a right row has none of the faults
pub none_out : (cells : ℕ) (row : List CellPart) → All (λ entry. entry.cell < cells) row → HasOut cells row → ⊥
none_out cells row within out = none_fails (λ entry. entry.cell < cells) (λ entry. cells ≤ entry.cell) (λ entry lt le. omega arith) row within out

pub none_over : (g : ℕ) (row : List CellPart) → All (λ entry. entry.part ≤ g) row → HasOver g row → ⊥
none_over g row parts over = none_fails (λ entry. entry.part ≤ g) (λ entry. g < entry.part) (λ entry le lt. omega arith) row parts over

-- so it isn't bad
pub none_bad : (g cells : ℕ) (row : List CellPart) → IsLookRow g cells row → IsBadRow g cells row → ⊥
none_bad g cells row right (inl out) = none_out cells row right.within out
none_bad g cells row right (inr (inl double)) = none_double row right.ascending double
none_bad g cells row right (inr (inr over)) = none_over g row right.parts over

-- a row is bad in any order of its entries
pub IsBadRow-permutation : (g cells : ℕ) (xs ys : List CellPart) → IsPermutation xs ys → IsBadRow g cells xs → IsBadRow g cells ys
IsBadRow-permutation g cells xs ys same (inl out) = inl (Any-permutation (λ entry. cells ≤ entry.cell) xs ys same out)
IsBadRow-permutation g cells xs ys same (inr (inl double)) = inr (inl (HasDouble-permutation xs ys same double))
IsBadRow-permutation g cells xs ys same (inr (inr over)) = inr (inr (Any-permutation (λ entry. g < entry.part) xs ys same over))

-- a sweep's sizes are right
right_sizes : (g cells : ℕ) (rows : List (List CellPart)) → IsSweep (looks_over g cells rows) → HasWrongSizes cells rows → ⊥
right_sizes g cells rows sweep (inl (inl none)) = omega (arith, none, sweep.positions)
right_sizes g cells rows sweep (inl (inr many)) = omega (arith, many, sweep.positions)
right_sizes g cells rows sweep (inr (inl none)) = omega (arith, none, sweep.cells)
right_sizes g cells rows sweep (inr (inr many)) = omega (arith, many, sweep.cells)

-- and sizes are right that aren't wrong
pub sizes_from_none : (cells : ℕ) (rows : List (List CellPart)) → (HasWrongSizes cells rows → ⊥) → ((1 ≤ length rows) × (length rows ≤ 200)) × ((1 ≤ cells) × (cells ≤ 200))
sizes_from_none cells rows right = (
  (
    elim (cases_eq (length rows) 0) [ inl none ↦ absurd (right (inl (inl none))) | inr some ↦ omega arith ],
    elim (cases_lt 200 (length rows)) [ inl many ↦ absurd (right (inl (inr many))) | inr few ↦ few ],
  ),
  (
    elim (cases_eq cells 0) [ inl none ↦ absurd (right (inr (inl none))) | inr some ↦ omega arith ],
    elim (cases_lt 200 cells) [ inl many ↦ absurd (right (inr (inr many))) | inr few ↦ few ],
  ),
)

-- a sweep's rows have no fault, in any order
no_fault-of_sweep : (g cells : ℕ) (rows : List (List CellPart)) → IsSweep (looks_over g cells rows) → (fault : LookFault) → HasFault g cells rows fault → ⊥
no_fault-of_sweep g cells rows sweep Count has = right_sizes g cells rows sweep has
no_fault-of_sweep g cells rows sweep (OutOfRange p) has = none_out _ _ (right_rows g cells rows sweep p has.0).within has.1
no_fault-of_sweep g cells rows sweep (DoubleEntry p) has = none_double _ (right_rows g cells rows sweep p has.0).ascending has.1
no_fault-of_sweep g cells rows sweep (PartOver p) has = none_over _ _ (right_rows g cells rows sweep p has.0).parts has.1
no_fault-of_sweep g cells rows sweep NoMemory has = has

pub faultless : (g cells : ℕ) (given made : List (List CellPart)) → AllZip IsPermutation given made → IsSweep (looks_over g cells made) → (fault : LookFault) → HasFault g cells given fault → ⊥
faultless g cells given made same sweep fault has = no_fault-of_sweep g cells made sweep fault (HasFault-same g cells given made same fault has)

pub no_first_fault : (g cells : ℕ) (rows : List (List CellPart)) → IsSweep (looks_over g cells rows) → (fault : LookFault) → IsFirstFault g cells rows fault → ⊥
no_first_fault g cells rows sweep fault first = no_fault-of_sweep g cells rows sweep fault first.there

-- wrong sizes are named before all rows
from_1 : (other : LookFault) → 1 ≤ (rank_of other).1
from_1 Count = omega arith
from_1 (OutOfRange q) = omega arith
from_1 (DoubleEntry q) = omega arith
from_1 (PartOver q) = omega arith
from_1 NoMemory = omega arith

-- the fault of a row is the named one where the sizes and all rows before are right
module _ (g cells : ℕ) (rows : List (List CellPart)) (sizes : HasWrongSizes cells rows → ⊥) (p : ℕ) (before : (k : ℕ) → k < p → IsLookRow g cells (row_at rows k)) where
  -- a row that isn't right stands no earlier
  from_here : (q : ℕ) → (IsLookRow g cells (row_at rows q) → ⊥) → p + 1 ≤ q + 1
  from_here q wrong = elim (cases_lt q p) [ inl earlier ↦ absurd (wrong (before q earlier)) | inr le ↦ omega arith ]

  later : (other : LookFault) → HasFault g cells rows other → p + 1 ≤ (rank_of other).0
  later Count has = absurd (sizes has)
  later (OutOfRange q) has = from_here q (λ right. none_out _ _ right.within has.1)
  later (DoubleEntry q) has = from_here q (λ right. none_double _ right.ascending has.1)
  later (PartOver q) has = from_here q (λ right. none_over _ _ right.parts has.1)
  later NoMemory has = absurd has

  -- and in this row the faults before it don't hold
  from_2 : (other : LookFault) → HasFault g cells rows other → (rank_of other).0 ≡ p + 1 → 2 ≤ (rank_of other).1
  from_2 Count has at = absurd (sizes has)
  from_2 (OutOfRange q) has at = omega arith
  from_2 (DoubleEntry q) has at = omega arith
  from_2 (PartOver q) has at = omega arith
  from_2 NoMemory has at = absurd has

  from_3 : All (λ entry. entry.cell < cells) (row_at rows p) → (other : LookFault) → HasFault g cells rows other → (rank_of other).0 ≡ p + 1 → 3 ≤ (rank_of other).1
  from_3 within Count has at = absurd (sizes has)
  from_3 within (OutOfRange q) has at = let same : q ≡ p = omega arith in absurd (none_out cells (row_at rows p) within (rw same at has.1))
  from_3 within (DoubleEntry q) has at = omega arith
  from_3 within (PartOver q) has at = omega arith
  from_3 within NoMemory has at = absurd has

  from_4 : All (λ entry. entry.cell < cells) (row_at rows p) → IsAscending (row_at rows p) →
      (other : LookFault) → HasFault g cells rows other → (rank_of other).0 ≡ p + 1 → 4 ≤ (rank_of other).1
  from_4 within up Count has at = absurd (sizes has)
  from_4 within up (OutOfRange q) has at = let same : q ≡ p = omega arith in absurd (none_out cells (row_at rows p) within (rw same at has.1))
  from_4 within up (DoubleEntry q) has at = let same : q ≡ p = omega arith in absurd (none_double (row_at rows p) up (rw same at has.1))
  from_4 within up (PartOver q) has at = omega arith
  from_4 within up NoMemory has at = absurd has

  pub first_from_row : (fault : LookFault) → p < length rows → IsFirstOfRow g cells p (row_at rows p) fault → IsFirstFault g cells rows fault
  first_from_row Count inside named = absurd named
  first_from_row (OutOfRange q) inside named = rw named.0 (record { there = (inside, named.1); first = named_first (HasFault g cells rows) rank_of (p + 1) 2 later from_2 })
  first_from_row (DoubleEntry q) inside named = rw named.0 (record { there = (inside, named.2); first = named_first (HasFault g cells rows) rank_of (p + 1) 3 later (from_3 named.1) })
  first_from_row (PartOver q) inside named = rw named.0 (record { there = (inside, named.3); first = named_first (HasFault g cells rows) rank_of (p + 1) 4 later (from_4 named.1 named.2) })
  first_from_row NoMemory inside named = absurd named
