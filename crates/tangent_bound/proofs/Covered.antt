-- What a look covers: a sum over the cells where it finds something is one over the entries of its row.
use Rattle.std.proofs.Common.{ℕ, ◌*◌, ◌≤◌, ◌≡◌, nat_lt, Bool, true, false, if◌then◌else◌, ◌∙◌, subst, arith, sum_by, filter}
use Rattle.std.specs.List.{range_with_len}
use Rattle.std.proofs.lemmas.Bool.{le-ltb}
use Rattle.sweep_table.specs.LookParts.{LookParts, cells_of, look_row, factor_of, IsSweep}
use Rattle.sweep_table.proofs.Factors.{made_by_look}
use Rattle.list_laws.proofs.Sums.{sum_by-same, sum_by-filter, sum_by-range-le}

counted : (test : Bool) (m : ℕ) → m * (if test then 1 else 0) ≡ (if test then m else 0)
counted true m = omega arith
counted false m = omega arith

counted-le : (test : Bool) (m : ℕ) → m * (if test then 1 else 0) ≤ m
counted-le true m = omega arith
counted-le false m = omega arith

module _ (sweep : LookParts) (sound : IsSweep sweep) (cells : ℕ) (is : cells_of sweep ≡ cells) (t a : ℕ) (x : ℕ → ℕ) where
  pub sum_covered : sum_by x (filter (λ c. nat_lt (factor_of sweep t a c) sweep.denominator) (range_with_len 0 cells))
      ≡ sum_by (λ entry. if nat_lt entry.part sweep.denominator then x entry.cell else 0) (look_row sweep t a)
  sum_covered =
      let finds : ℕ → ℕ = λ part. if nat_lt part sweep.denominator then 1 else 0 in
      let nothing : finds sweep.denominator ≡ 0 = rw (le-ltb sweep.denominator sweep.denominator (omega arith)) (omega arith) in
      let made : ℕ → Type 0 = λ n. sum_by (λ c. x c * finds (factor_of sweep t a c)) (range_with_len 0 n) ≡ sum_by (λ entry. x entry.cell * finds entry.part) (look_row sweep t a) in
      sum_by-filter (λ c. nat_lt (factor_of sweep t a c) sweep.denominator) x (range_with_len 0 cells)
      ∙ subst made is (made_by_look sweep sound finds nothing t a x)
      ∙ sum_by-same _ _ (look_row sweep t a) (λ entry. counted (nat_lt entry.part sweep.denominator) (x entry.cell))

  -- it is within the sum over all cells
  pub sum_covered-le : sum_by x (filter (λ c. nat_lt (factor_of sweep t a c) sweep.denominator) (range_with_len 0 cells)) ≤ sum_by x (range_with_len 0 cells)
  sum_covered-le =
      let finds : ℕ → Bool = λ c. nat_lt (factor_of sweep t a c) sweep.denominator in
      let some = sum_by-range-le cells (λ c. x c * (if finds c then 1 else 0)) x (λ c lt. counted-le (finds c) (x c)) in
      omega (arith, sum_by-filter finds x (range_with_len 0 cells), some)
