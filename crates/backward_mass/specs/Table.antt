-- The backward masses of a path, period by period.
use Rattle.std.specs.Prelude.{ℕ, ◌+◌, ◌*◌, ◌-◌, ◌<◌, ◌≤◌, ◌≡◌, List, slice_index}
use Rattle.sweep_table.specs.LookParts.{factor_of}
use Rattle.search_model.specs.Problem.{Problem}
use Rattle.backward_mass.specs.Masses.{backward_of}

-- what contracts see of a backward pass: the number of cells and of periods, and a number for each cell of each period
pub record BackwardTable : Type 0 where
  pub cells : ℕ
  pub horizon : ℕ
  pub masses : List ℕ

-- the number of a cell in a period
abbrev pub mass_at : BackwardTable → ℕ → ℕ → ℕ
mass_at b t c = slice_index b.masses ((t - 1) * b.cells + c)

-- as many cells and periods as a problem has
pub record IsMadeFor (p : Problem) (b : BackwardTable) : Type 0 where
  pub cells : b.cells ≡ p.cells
  pub horizon : b.horizon ≡ p.horizon

-- each number of period k and later is the backward mass of its cell and period under a path
pub record IsFilledFrom (p : Problem) (q : List ℕ) (k : ℕ) (b : BackwardTable) : Type 0 where
  pub made : IsMadeFor p b
  pub masses : (t c : ℕ) → k ≤ t → t ≤ p.horizon → c < p.cells → mass_at b t c ≡ backward_of p q t c

-- each number is the backward mass of its cell and period under a path
abbrev pub IsFilled : Problem → List ℕ → BackwardTable → Type 0
IsFilled p q b = IsFilledFrom p q 1 b

-- the numbers from a place on are the backward masses of a period, cell by cell
abbrev pub IsRow : Problem → List ℕ → ℕ → List ℕ → ℕ → Type 0
IsRow p q t masses place = (c : ℕ) → c < p.cells → slice_index masses (place + c) ≡ backward_of p q t c

-- what the look after period t misses of the backward masses of the next period, cell by cell
abbrev pub IsMissedRow : Problem → List ℕ → ℕ → List ℕ → Type 0
IsMissedRow p q t missed = (d : ℕ) → d < p.cells → slice_index missed d ≡ factor_of p.sweep (t + 1) (slice_index q t) d * backward_of p q (t + 1) d

-- the numbers of each period from k on are the backward masses of a path
abbrev pub AreRowsFrom : Problem → List ℕ → ℕ → List ℕ → Type 0
AreRowsFrom p q k masses = (t : ℕ) → k ≤ t → t ≤ p.horizon → IsRow p q t masses ((t - 1) * p.cells)
