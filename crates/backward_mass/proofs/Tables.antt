-- Reads of a table of masses.
use Rattle.std.proofs.Common.{ℕ, zero, suc, ◌+◌, ◌*◌, ◌-◌, ◌^◌, ◌<◌, ◌≤◌, ◌≡◌, List, length, get_or, drop, arith, mul-le-mul_right}
use Rattle.std.proofs.lemmas.List.{get_or_default}
use Rattle.search_model.specs.Problem.{Problem, IsProblem}
use Rattle.search_model.proofs.Totals.{after_of-fits}
use Rattle.backward_mass.specs.Table.{BackwardTable, mass_at, IsFilledFrom}

-- the place of a cell in a period is within the table
pub place_within : (horizon cells t c : ℕ) → 1 ≤ t → t ≤ horizon → c < cells → (t - 1) * cells + c < horizon * cells
place_within horizon cells zero c some last cell = absurd (omega (arith, some))
place_within horizon cells (suc n) c some last cell =
    let first : suc n - 1 ≡ n = omega arith in
    rw first (omega (arith, mul-le-mul_right cells last, cell))

-- a number that is read of the table, whatever stands past its end
pub read_is : (b : BackwardTable) (t c d : ℕ) → length b.masses ≡ b.horizon * b.cells → 1 ≤ t → t ≤ b.horizon → c < b.cells →
    get_or b.masses ((t - 1) * b.cells + c) d ≡ mass_at b t c
read_is b t c d size some last cell = get_or_default b.masses ((t - 1) * b.cells + c) d 0 (omega (arith, size, place_within b.horizon b.cells t c some last cell))

-- each number of a filled table fits
pub filled_fits : (p : Problem) → IsProblem p → (q : List ℕ) (k : ℕ) (b : BackwardTable) → IsFilledFrom p q k b → (t c : ℕ) → k ≤ t → 1 ≤ t → t ≤ b.horizon → c < b.cells → mass_at b t c < 2 ^ 127
filled_fits p sound q k b filled t c from some last cell =
    let within : t ≤ p.horizon = omega (arith, last, filled.made.horizon) in
    let here : c < p.cells = omega (arith, cell, filled.made.cells) in
    let mass = filled.masses t c from within here in
    omega (arith, mass, after_of-fits p sound t c here (drop t q) (p.horizon - t) (omega (arith, some)))

-- what is filled from a period on is filled from each later one on
pub filled_later : (p : Problem) (q : List ℕ) (k n : ℕ) (b : BackwardTable) → k ≤ n → IsFilledFrom p q k b → IsFilledFrom p q n b
filled_later p q k n b later filled = record { made = filled.made; masses = λ t c from within here. filled.masses t c (omega (arith, later, from)) within here }
