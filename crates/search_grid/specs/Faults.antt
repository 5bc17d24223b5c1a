-- What is wrong with rows of moves, and which fault of theirs is named.
use Rattle.std.specs.Prelude.{ℕ, ◌≡◌, ◌+◌, ◌<◌, ◌≤◌, ◌==◌, ◌⊎◌, List, length, count_by, All, Any}
use Rattle.std.specs.List.Sorted.{IsPermutation}
use Rattle.search_grid.specs.declared.faults.GridFault.{GridFault}
use Rattle.search_grid.specs.declared.faults.GridFault.TheVariants.{CellCount, NoMove, TooManyMoves, OutOfRange, DoubleMove, NoMemory}
use Rattle.search_grid.specs.Moves.{moves_from}

-- the same cells, each with the same moves in any order
pub record HasSameMoves (given made : List (List ℕ)) : Type 0 where
  pub cells : length made ≡ length given
  pub moves : (c : ℕ) → c < length given → IsPermutation (moves_from given c) (moves_from made c)

-- some move stands more than once
abbrev pub HasDouble : List ℕ → Type 0
HasDouble row = (d : ℕ) × (1 < count_by (λ move. move == d) row)

-- rows have this fault; that memory ran out is no fault of theirs
abbrev pub HasFault : List (List ℕ) → GridFault → Type 0
HasFault rows CellCount = (length rows ≡ 0) ⊎ (200 < length rows)
HasFault rows (NoMove c) = (c < length rows) × (length (moves_from rows c) ≡ 0)
HasFault rows (TooManyMoves c) = (c < length rows) × (64 < length (moves_from rows c))
HasFault rows (OutOfRange c) = (c < length rows) × Any (λ d. length rows ≤ d) (moves_from rows c)
HasFault rows (DoubleMove c) = (c < length rows) × HasDouble (moves_from rows c)
HasFault rows NoMemory = ⊥

-- where a fault stands: before all rows, or in a row, counted from 1
abbrev pub place_of : GridFault → ℕ
place_of CellCount = 0
place_of (NoMove c) = c + 1
place_of (TooManyMoves c) = c + 1
place_of (OutOfRange c) = c + 1
place_of (DoubleMove c) = c + 1
place_of NoMemory = 0

-- the numbers of the faults
abbrev pub number_of : GridFault → ℕ
number_of CellCount = 1
number_of (NoMove c) = 2
number_of (TooManyMoves c) = 3
number_of (OutOfRange c) = 4
number_of (DoubleMove c) = 5
number_of NoMemory = 6

-- a fault is named rather than another by its place, and at one place by its number
abbrev pub IsNotAfter : GridFault → GridFault → Type 0
IsNotAfter fault other = (place_of fault < place_of other) ⊎ ((place_of fault ≡ place_of other) × (number_of fault ≤ number_of other))

-- the fault that is named: the rows have it, and none that goes before it
pub record IsFirstFault (rows : List (List ℕ)) (fault : GridFault) : Type 0 where
  pub there : HasFault rows fault
  pub first : (other : GridFault) → HasFault rows other → IsNotAfter fault other

-- the fault that is named of the row of cell c, out of so many cells
abbrev pub IsFirstOfRow : ℕ → ℕ → List ℕ → GridFault → Type 0
IsFirstOfRow cells c row CellCount = ⊥
IsFirstOfRow cells c row (NoMove b) = (b ≡ c) × (length row ≡ 0)
IsFirstOfRow cells c row (TooManyMoves b) = (b ≡ c) × (1 ≤ length row) × (64 < length row)
IsFirstOfRow cells c row (OutOfRange b) = (b ≡ c) × (1 ≤ length row) × (length row ≤ 64) × Any (λ d. cells ≤ d) row
IsFirstOfRow cells c row (DoubleMove b) = (b ≡ c) × (1 ≤ length row) × (length row ≤ 64) × All (λ d. d < cells) row × HasDouble row
IsFirstOfRow cells c row NoMemory = ⊥
