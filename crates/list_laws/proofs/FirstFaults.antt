-- Faults that are named by their place, and at one place by their number.
use Rattle.std.proofs.Common.{ℕ, ◌<◌, ◌≤◌, ◌≡◌, ◌⊎◌, inl, inr, arith}
use Rattle.std.proofs.lemmas.Bool.{cases_lt}

-- a fault goes before all others where none stands earlier, and none at its place has a smaller number
pub named_first : {F : Type 0} (Has : F → Type 0) (rank : F → ℕ × ℕ) (place number : ℕ) → ((other : F) → Has other → place ≤ (rank other).0) →
    ((other : F) → Has other → (rank other).0 ≡ place → number ≤ (rank other).1) → (other : F) → Has other → (place < (rank other).0) ⊎ ((place ≡ (rank other).0) × (number ≤ (rank other).1))
named_first Has rank place number later smaller other has = elim (cases_lt place (rank other).0) [
  | inl before ↦ inl before
  | inr after ↦
      let from = later other has in
      inr (omega arith, smaller other has (omega arith))
]
