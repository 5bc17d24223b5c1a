-- Which scenarios have no product.
use Rattle.std.specs.Prelude.{ℕ, ◌*◌, ◌<◌, ◌≤◌, length}
use Rattle.exact_parts.specs.Width.{Fits}
use Rattle.search_grid.specs.Moves.{moves_from}
use Rattle.search_model.specs.Problem.{Problem}
use Rattle.duo_search.specs.declared.faults.DuoFault.{DuoFault}
use Rattle.duo_search.specs.declared.faults.DuoFault.TheVariants.{TooManyPositions, TooManyMoves, TooFine, TooWide, NoMemory}

-- the numbers of moves of two positions, or of one with itself, multiply to more than 64
abbrev pub HasManyMoves : Problem → Type 0
HasManyMoves p = (i : ℕ) × (j : ℕ) × (i < p.positions) × (j < p.positions) × (64 < length (moves_from p.moves i) * length (moves_from p.moves j))

-- no position has more than 8 moves, so that no two have too many
abbrev pub HasFewMoves : Problem → Type 0
HasFewMoves p = (i : ℕ) → i < p.positions → length (moves_from p.moves i) ≤ 8

-- the sums fit over looks in parts of the squared denominator
abbrev pub FitsTwo : Problem → Type 0
FitsTwo p = Fits p.total p.drift.denominator (p.sweep.denominator * p.sweep.denominator) p.horizon

-- what each refusal says of the scenario; it is the first that does
abbrev pub IsRefused : Problem → DuoFault → Type 0
IsRefused p TooManyPositions = 14 < p.positions
IsRefused p TooManyMoves = (p.positions ≤ 14) × HasManyMoves p
IsRefused p TooFine = (p.positions ≤ 14) × (¬ HasManyMoves p) × (1000 < p.sweep.denominator)
IsRefused p TooWide = (p.positions ≤ 14) × (¬ HasManyMoves p) × (p.sweep.denominator ≤ 1000) × (¬ FitsTwo p)
IsRefused p NoMemory = ⊥

-- what holds of a scenario that isn't refused
pub record IsSmall (p : Problem) : Type 0 where
  pub positions : p.positions ≤ 14
  pub moves : HasFewMoves p
  pub denominator : p.sweep.denominator ≤ 1000
  pub fits : FitsTwo p
