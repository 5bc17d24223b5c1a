-- The rate of a problem's look factors, and the one rate of its sweep.
use Rattle.std.proofs.Common.{ℕ, ◌≡◌, arith}
use Rattle.sweep_table.specs.LookParts.{IsOneRate}
use Rattle.search_model.specs.Problem.{Problem, IsProblem}
use Rattle.search_model.specs.Bounds.{IsRate}
use Rattle.search_model.specs.Laws.{OneRateIsRate}

-- they are said of the same positions and cells
rate_of : (p : Problem) (rate : ℕ) → IsProblem p → IsOneRate p.sweep p.horizon rate → IsRate p rate
rate_of p rate sound one =
    let positions = sound.sweep_positions in
    let cells = sound.sweep_cells in
    record {
      either = λ t a c first last position cell. one.either t a c first last (omega (arith, position, positions)) (omega (arith, cell, cells));
      least = λ t a c first last position cell. one.least t a c first last (omega (arith, position, positions)) (omega (arith, cell, cells));
      reached =
          let (t, a, c, first, last, position, cell, here) = one.reached in
          (t, a, c, first, last, omega (arith, position, positions), omega (arith, cell, cells), here);
    }

one_rate_of : (p : Problem) (rate : ℕ) → IsProblem p → IsRate p rate → IsOneRate p.sweep p.horizon rate
one_rate_of p rate sound is =
    let positions = sound.sweep_positions in
    let cells = sound.sweep_cells in
    record {
      either = λ t a c first last position cell. is.either t a c first last (omega (arith, position, positions)) (omega (arith, cell, cells));
      least = λ t a c first last position cell. is.least t a c first last (omega (arith, position, positions)) (omega (arith, cell, cells));
      reached =
          let (t, a, c, first, last, position, cell, here) = is.reached in
          (t, a, c, first, last, omega (arith, position, positions), omega (arith, cell, cells), here);
    }

pub one_rate_is_rate : OneRateIsRate
one_rate_is_rate p rate sound = (rate_of p rate sound, one_rate_of p rate sound)

-- a problem's look factors have one rate at most
pub one_rate : (p : Problem) (r s : ℕ) → IsRate p r → IsRate p s → r ≡ s
one_rate p r s first second =
    let (t, a, c, from, to, position, cell, here) = first.reached in
    let (u, b, d, begin, end, place, spot, there) = second.reached in
    omega (arith, here, there, second.least t a c from to position cell, first.least u b d begin end place spot)
