-- A table with a row of places for each period, filled row by row.
use Rattle.std.proofs.Common.{ℕ, ◌+◌, ◌*◌, ◌-◌, ◌<◌, ◌≤◌, ◌≡◌, List, slice_index, inl, inr, ◌∙◌, arith}
use Rattle.std.proofs.lemmas.Bool.{cases_lt}
use Rattle.std.proofs.Math.Nat.{mul-le-mul_right}
use Rattle.longest_walk.specs.Sums.{entry_at}

-- the periods after k, up to a last one, have these numbers
abbrev pub HasEntries : ℕ → (ℕ → ℕ → ℕ) → ℕ → ℕ → List ℕ → Type 0
HasEntries places f k last numbers = (t a : ℕ) → k < t → t ≤ last → a < places → entry_at places numbers t a ≡ f t a

-- a place of an earlier row is before a row
pub earlier_place : (places t u a : ℕ) → a < places → 1 ≤ u → u ≤ t → (u - 1) * places + a < t * places
earlier_place places t u a here some le =
    let rows : (u - 1 + 1) * places ≤ t * places = mul-le-mul_right places (omega (arith, some, le)) in
    omega (arith, rows, here)

-- one row more, with the rows before it as they were
pub entries_more : (places : ℕ) (f : ℕ → ℕ → ℕ) (k : ℕ) (old new : List ℕ) (t : ℕ) → HasEntries places f k t old →
    ((a : ℕ) → a < places → slice_index new (t * places + a) ≡ f (t + 1) a) →
    ((i : ℕ) → i < t * places → slice_index new i ≡ slice_index old i) →
    HasEntries places f k (t + 1) new
entries_more places f k old new t filled row kept u a later last here =
    elim (cases_lt t u) [
      | inl after ↦
          let period : u ≡ t + 1 = omega (arith, after, last) in
          let before : t + 1 - 1 ≡ t = omega arith in
          rw (period, before) (row a here)
      | inr within ↦ kept ((u - 1) * places + a) (earlier_place places t u a here (omega (arith, later)) within) ∙ filled u a later within here
    ]
