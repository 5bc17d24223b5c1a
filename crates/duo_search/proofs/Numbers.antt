-- The numbers of the positions of both.
use Rattle.std.proofs.Common.{ℕ, zero, suc, ◌*◌, ◌<◌, ◌≤◌, ◌≡◌, arith}
use Rattle.std.proofs.Math.Nat.{mul-le-mul}
use Rattle.std.proofs.lemmas.Nat.{div-mul-add, mod-mul-add, div-add-mod', div_below, mod_below, mul-add-lt}
use Rattle.duo_search.specs.Product.{both_at, first_at, second_at}

pub some_position : (P n : ℕ) → n < P * P → 0 < P
some_position zero n inside = absurd (omega arith)
some_position (suc P) n inside = omega arith

-- what a number says are positions
pub first_within : (P n : ℕ) → n < P * P → first_at P n < P
first_within P n inside = div_below n P P (some_position P n inside) inside

pub second_within : (P n : ℕ) → n < P * P → second_at P n < P
second_within P n inside = mod_below n P (some_position P n inside)

-- they make it
pub both_is : (P n : ℕ) → both_at P (first_at P n) (second_at P n) ≡ n
both_is P n = div-add-mod' n P

-- and it says what it was made of
pub first_is : (P i j : ℕ) → j < P → first_at P (both_at P i j) ≡ i
first_is P i j below = div-mul-add i P j below

pub second_is : (P i j : ℕ) → j < P → second_at P (both_at P i j) ≡ j
second_is P i j below = mod-mul-add i P j below

pub both_within : (P i j : ℕ) → i < P → j < P → both_at P i j < P * P
both_within P i j first second = mul-add-lt i P j P first second

-- few positions have few pairs
pub few_pairs : (P : ℕ) → P ≤ 14 → P * P ≤ 196
few_pairs P few = omega (arith, mul-le-mul few few)
