-- Which fault of rows is named.
use Rattle.std.proofs.Common.{ℕ, ◌<◌, ◌≤◌, ◌≡◌, ◌≢◌, ◌∙◌, List, length, sym, subst, arith, sum_by, All, Any, inl, inr}
use Rattle.std.specs.List.{AllZip}
use Rattle.std.specs.List.Sorted.{IsPermutation}
use Rattle.std.proofs.lemmas.Bool.{cases_lt}
use Rattle.std.proofs.lemmas.List.Elements.{length_all_zip}
use Rattle.std.proofs.lemmas.List.Sorted.{sum_by-IsPermutation, IsPermutation-sym}
use Rattle.list_laws.proofs.FirstFaults.{named_first}
use Rattle.list_laws.proofs.Matched.{AllZip-flip}
use Rattle.list_laws.proofs.Reordered.{Any-permutation, none_fails}
use Rattle.period_rows.specs.declared.part.CellPart.{CellPart}
use Rattle.period_rows.specs.Rows.{row_at, IsAscending}
use Rattle.period_rows.proofs.SameRows.{HasDouble-permutation, none_double, row_at-same}
use Rattle.drift_chain.specs.declared.faults.DriftFault.{DriftFault}
use Rattle.drift_chain.specs.declared.faults.DriftFault.TheVariants.{OutOfRange, ZeroPart, DoubleEntry, WrongSum, NoMemory}
use Rattle.drift_chain.specs.DriftRows.{drift_over, IsDriftRow, IsDrift}
use Rattle.drift_chain.specs.Faults.{HasFault, rank_of, IsFirstFault, IsFirstOfRow}
use Rattle.drift_chain.proofs.Drifts.{right_rows}

-- the order of the entries in a row makes and mends no fault
pub wrong_sum-permutation : (denominator : ℕ) (xs ys : List CellPart) → IsPermutation xs ys → sum_by (λ entry. entry.part) xs ≢ denominator → sum_by (λ entry. entry.part) ys ≢ denominator
wrong_sum-permutation denominator xs ys same wrong right = wrong (sym (sum_by-IsPermutation (λ entry. entry.part) xs ys same) ∙ right)

HasFault-same : (denominator : ℕ) (given made : List (List CellPart)) → AllZip IsPermutation given made → (fault : DriftFault) → HasFault denominator given fault → HasFault denominator made fault
HasFault-same denominator given made same (OutOfRange c) has =
    (rw (← length_all_zip IsPermutation given made same) has.0, rw (← length_all_zip IsPermutation given made same) (Any-permutation _ _ _ (row_at-same given made same c has.0) has.1))
HasFault-same denominator given made same (ZeroPart c) has =
    (rw (← length_all_zip IsPermutation given made same) has.0, Any-permutation _ _ _ (row_at-same given made same c has.0) has.1)
HasFault-same denominator given made same (DoubleEntry c) has =
    (rw (← length_all_zip IsPermutation given made same) has.0, HasDouble-permutation _ _ (row_at-same given made same c has.0) has.1)
HasFault-same denominator given made same (WrongSum c) has =
    (rw (← length_all_zip IsPermutation given made same) has.0, wrong_sum-permutation denominator _ _ (row_at-same given made same c has.0) has.1)
HasFault-same denominator given made same NoMemory has = has

-- rows in order have the same first fault as before
pub IsFirstFault-same : (denominator : ℕ) (given made : List (List CellPart)) → AllZip IsPermutation given made → (fault : DriftFault) → IsFirstFault denominator made fault → IsFirstFault denominator given fault
IsFirstFault-same denominator given made same fault first = record {
  there = HasFault-same denominator made given (AllZip-flip IsPermutation IsPermutation (λ xs ys. IsPermutation-sym xs ys) given made same) fault first.there;
  first = λ other has. first.first other (HasFault-same denominator given made same other has);
}

-- what holds of all entries fails at none
pub none_out : (cells : ℕ) (row : List CellPart) → All (λ entry. entry.cell < cells) row → Any (λ entry. cells ≤ entry.cell) row → ⊥
none_out cells row within out = none_fails (λ entry. entry.cell < cells) (λ entry. cells ≤ entry.cell) (λ entry lt le. omega arith) row within out

pub none_zero : (row : List CellPart) → All (λ entry. 1 ≤ entry.part) row → Any (λ entry. entry.part ≡ 0) row → ⊥
none_zero row positive zero = none_fails (λ entry. 1 ≤ entry.part) (λ entry. entry.part ≡ 0) (λ entry le none. omega arith) row positive zero

-- a drift's rows have no fault, in any order
no_fault-of_drift : (denominator : ℕ) (rows : List (List CellPart)) → IsDrift (drift_over denominator rows) → (fault : DriftFault) → HasFault denominator rows fault → ⊥
no_fault-of_drift denominator rows drift (OutOfRange c) has = none_out _ _ (right_rows denominator rows drift c has.0).within has.1
no_fault-of_drift denominator rows drift (ZeroPart c) has = none_zero _ (right_rows denominator rows drift c has.0).positive has.1
no_fault-of_drift denominator rows drift (DoubleEntry c) has = none_double _ (right_rows denominator rows drift c has.0).ascending has.1
no_fault-of_drift denominator rows drift (WrongSum c) has = has.1 (right_rows denominator rows drift c has.0).total
no_fault-of_drift denominator rows drift NoMemory has = has

pub faultless : (denominator : ℕ) (given made : List (List CellPart)) → AllZip IsPermutation given made → IsDrift (drift_over denominator made) → (fault : DriftFault) → HasFault denominator given fault → ⊥
faultless denominator given made same drift fault has = no_fault-of_drift denominator made drift fault (HasFault-same denominator given made same fault has)

pub no_first_fault : (denominator : ℕ) (rows : List (List CellPart)) → IsDrift (drift_over denominator rows) → (fault : DriftFault) → IsFirstFault denominator rows fault → ⊥
no_first_fault denominator rows drift fault first = no_fault-of_drift denominator rows drift fault first.there

-- the fault of a row is the named one where all rows before are right
module _ (denominator : ℕ) (rows : List (List CellPart)) (c : ℕ) (before : (k : ℕ) → k < c → IsDriftRow denominator (length rows) (row_at rows k)) where
  -- a row that isn't right stands no earlier
  from_here : (b : ℕ) → (IsDriftRow denominator (length rows) (row_at rows b) → ⊥) → c ≤ b
  from_here b wrong = elim (cases_lt b c) [ inl earlier ↦ absurd (wrong (before b earlier)) | inr le ↦ le ]

  later : (other : DriftFault) → HasFault denominator rows other → c ≤ (rank_of other).0
  later (OutOfRange b) has = from_here b (λ right. none_out _ _ right.within has.1)
  later (ZeroPart b) has = from_here b (λ right. none_zero _ right.positive has.1)
  later (DoubleEntry b) has = from_here b (λ right. none_double _ right.ascending has.1)
  later (WrongSum b) has = from_here b (λ right. has.1 right.total)
  later NoMemory has = absurd has

  -- and in this row the faults before it don't hold
  from_1 : (other : DriftFault) → 1 ≤ (rank_of other).1
  from_1 (OutOfRange b) = omega arith
  from_1 (ZeroPart b) = omega arith
  from_1 (DoubleEntry b) = omega arith
  from_1 (WrongSum b) = omega arith
  from_1 NoMemory = omega arith

  module _ (within : All (λ entry. entry.cell < length rows) (row_at rows c)) where
    from_2 : (other : DriftFault) → HasFault denominator rows other → (rank_of other).0 ≡ c → 2 ≤ (rank_of other).1
    from_2 (OutOfRange b) has at = absurd (none_out (length rows) (row_at rows c) within (rw at at has.1))
    from_2 (ZeroPart b) has at = omega arith
    from_2 (DoubleEntry b) has at = omega arith
    from_2 (WrongSum b) has at = omega arith
    from_2 NoMemory has at = absurd has

    module _ (positive : All (λ entry. 1 ≤ entry.part) (row_at rows c)) where
      from_3 : (other : DriftFault) → HasFault denominator rows other → (rank_of other).0 ≡ c → 3 ≤ (rank_of other).1
      from_3 (OutOfRange b) has at = absurd (none_out (length rows) (row_at rows c) within (rw at at has.1))
      from_3 (ZeroPart b) has at = absurd (none_zero (row_at rows c) positive (rw at at has.1))
      from_3 (DoubleEntry b) has at = omega arith
      from_3 (WrongSum b) has at = omega arith
      from_3 NoMemory has at = absurd has

      from_4 : IsAscending (row_at rows c) → (other : DriftFault) → HasFault denominator rows other → (rank_of other).0 ≡ c → 4 ≤ (rank_of other).1
      from_4 up (OutOfRange b) has at = absurd (none_out (length rows) (row_at rows c) within (rw at at has.1))
      from_4 up (ZeroPart b) has at = absurd (none_zero (row_at rows c) positive (rw at at has.1))
      from_4 up (DoubleEntry b) has at = absurd (none_double (row_at rows c) up (rw at at has.1))
      from_4 up (WrongSum b) has at = omega arith
      from_4 up NoMemory has at = absurd has

  first_from_row : (fault : DriftFault) → c < length rows → IsFirstOfRow denominator (length rows) c (row_at rows c) fault → IsFirstFault denominator rows fault
  first_from_row (OutOfRange b) inside named = rw named.0 (record { there = (inside, named.1); first = named_first (HasFault denominator rows) rank_of c 1 later (λ other has at. from_1 other) })
  first_from_row (ZeroPart b) inside named = rw named.0 (record { there = (inside, named.2); first = named_first (HasFault denominator rows) rank_of c 2 later (from_2 named.1) })
  first_from_row (DoubleEntry b) inside named = rw named.0 (record { there = (inside, named.3); first = named_first (HasFault denominator rows) rank_of c 3 later (from_3 named.1 named.2) })
  first_from_row (WrongSum b) inside named = rw named.0 (record { there = (inside, named.4); first = named_first (HasFault denominator rows) rank_of c 4 later (from_4 named.1 named.2 named.3) })
  first_from_row NoMemory inside named = absurd named

-- the same, of rows that are so many
pub first_from_rows : (denominator : ℕ) (rows : List (List CellPart)) (n c : ℕ) → length rows ≡ n → ((k : ℕ) → k < c → IsDriftRow denominator n (row_at rows k)) →
    (fault : DriftFault) → c < n → IsFirstOfRow denominator n c (row_at rows c) fault → IsFirstFault denominator rows fault
first_from_rows denominator rows n c size before fault inside named =
    let P : ℕ → Type 0 = λ m. ((k : ℕ) → k < c → IsDriftRow denominator m (row_at rows k)) → c < m → IsFirstOfRow denominator m c (row_at rows c) fault → IsFirstFault denominator rows fault in
    subst P size (λ before inside named. first_from_row denominator rows c before fault inside named) before inside named
