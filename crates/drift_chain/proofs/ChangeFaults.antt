-- Rows of changes that are bad or right, and why changes aren't taken.
use Rattle.std.proofs.Common.{ℕ, ◌≡◌, List, inl, inr}
use Rattle.std.specs.List.Sorted.{IsPermutation}
use Rattle.list_laws.proofs.Reordered.{Any-permutation}
use Rattle.period_rows.specs.declared.part.CellPart.{CellPart}
use Rattle.period_rows.specs.Changes.{RowChange, AreChanges, HaveRows}
use Rattle.period_rows.proofs.ChangeFaults.{no_row_fault}
use Rattle.period_rows.proofs.SameRows.{HasDouble-permutation, none_double}
use Rattle.drift_chain.specs.declared.changes.ChangeFault.{ChangeFault}
use Rattle.drift_chain.specs.declared.changes.ChangeFault.TheVariants as changes
use Rattle.drift_chain.specs.DriftRows.{IsDriftRow}
use Rattle.drift_chain.specs.ChangeFaults.{row_fault_of, IsBadRow, IsRefusal}
use Rattle.drift_chain.proofs.NamedFaults.{none_out, none_zero, wrong_sum-permutation}

-- a right row isn't bad
pub right_is_not_bad : (denominator cells : ℕ) (row : List CellPart) → IsDriftRow denominator cells row → IsBadRow denominator cells row → ⊥
right_is_not_bad denominator cells row right (inl out) = none_out cells row right.within out
right_is_not_bad denominator cells row right (inr (inl zero)) = none_zero row right.positive zero
right_is_not_bad denominator cells row right (inr (inr (inl double))) = none_double row right.ascending double
right_is_not_bad denominator cells row right (inr (inr (inr wrong))) = wrong right.total

-- the order of a row's entries makes it neither
pub bad_row-permutation : (denominator cells : ℕ) (xs ys : List CellPart) → IsPermutation xs ys → IsBadRow denominator cells xs → IsBadRow denominator cells ys
bad_row-permutation denominator cells xs ys same (inl out) = inl (Any-permutation _ xs ys same out)
bad_row-permutation denominator cells xs ys same (inr (inl zero)) = inr (inl (Any-permutation _ xs ys same zero))
bad_row-permutation denominator cells xs ys same (inr (inr (inl double))) = inr (inr (inl (HasDouble-permutation xs ys same double)))
bad_row-permutation denominator cells xs ys same (inr (inr (inr wrong))) = inr (inr (inr (wrong_sum-permutation denominator xs ys same wrong)))

-- right changes are refused only where memory ran out
told_memory : (fault : ChangeFault) → row_fault_of fault ≡ row_fault_of changes.NoMemory → fault ≡ changes.NoMemory
told_memory (changes.PeriodOutOfRange i) same = absurd (let wrong : ⊥ = cc in wrong)
told_memory (changes.CellOutOfRange i) same = absurd (let wrong : ⊥ = cc in wrong)
told_memory (changes.DoubleChange i) same = absurd (let wrong : ⊥ = cc in wrong)
told_memory (changes.BadRow i) same = absurd (let wrong : ⊥ = cc in wrong)
told_memory changes.NoMemory same = λ i. changes.NoMemory

pub refused_for_memory : (denominator cells : ℕ) (given : List RowChange) (fault : ChangeFault) → AreChanges 31 cells given → HaveRows (IsDriftRow denominator cells) given →
    IsRefusal denominator cells given fault → fault ≡ changes.NoMemory
refused_for_memory denominator cells given fault are right (inl no_memory) = told_memory fault no_memory
refused_for_memory denominator cells given fault are right (inr first) =
    absurd (no_row_fault (IsDriftRow denominator cells) (IsBadRow denominator cells) (right_is_not_bad denominator cells) 31 cells given are right (row_fault_of fault) first.there)
