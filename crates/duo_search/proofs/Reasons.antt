-- Which scenarios have no product.
use Rattle.std.proofs.Common.{ℕ, ◌<◌, length, arith}
use Rattle.std.proofs.Math.Nat.{mul-le-mul}
use Rattle.search_grid.specs.Moves.{moves_from}
use Rattle.search_model.specs.Problem.{Problem}
use Rattle.duo_search.specs.declared.faults.DuoFault.{DuoFault}
use Rattle.duo_search.specs.declared.faults.DuoFault.TheVariants.{TooManyPositions, TooManyMoves, TooFine, TooWide, NoMemory}
use Rattle.duo_search.specs.Refusals.{HasManyMoves, HasFewMoves, IsRefused, IsSmall}

-- a position with more than 8 moves has too many with itself
pub many_with_itself : (p : Problem) (i : ℕ) → i < p.positions → 8 < length (moves_from p.moves i) → HasManyMoves p
many_with_itself p i inside many = (i, i, inside, inside, omega (arith, mul-le-mul many many))

-- and where none has more than 8, no two have too many
pub few_moves : (p : Problem) → HasFewMoves p → ¬ HasManyMoves p
few_moves p few (i, j, first, second, many) = omega (arith, many, mul-le-mul (few i first) (few j second))

-- a scenario that isn't refused has no reason to be
pub not_refused : (p : Problem) → IsSmall p → (fault : DuoFault) → ¬ IsRefused p fault
not_refused p small TooManyPositions h = omega (arith, h, small.positions)
not_refused p small TooManyMoves h = few_moves p small.moves h.1
not_refused p small TooFine h = omega (arith, h.2, small.denominator)
not_refused p small TooWide h = h.3 small.fits
not_refused p small NoMemory h = h
