-- The moves after a legal prefix, and the prefixes that they make.
use Rattle.std.proofs.Common.{ℕ, ◌<◌, ◌≤◌, List, [], ◌∷◌, ◌++◌, length, arith, Contains, length-append}
use Rattle.search_grid.specs.Moves.{IsMoveRow}
use Rattle.search_model.specs.Problem.{Problem, IsProblem}
use Rattle.search_model.specs.Legal.{IsLegal, last_of, moves_after}
use Rattle.search_model.proofs.LegalLemmas.{last_within}
use Rattle.search_model.proofs.WalkLemmas.{follows-append}

-- the moves after a legal prefix
row_after : (p : Problem) (q : List ℕ) → IsProblem p → IsLegal p q → IsMoveRow (length p.moves) (moves_after p q)
row_after p q sound legal =
    let start = sound.start in
    let positions = sound.grid_positions in
    sound.grid.each (last_of p.start q) (last_within p.moves sound.grid p.start (omega (arith, start, positions)) q legal.follows)

-- there are at most 64
pub few_moves : (p : Problem) (q : List ℕ) → IsProblem p → IsLegal p q → length (moves_after p q) ≤ 64
few_moves p q sound legal = (row_after p q sound legal).few

-- there is one at least
pub some_moves : (p : Problem) (q : List ℕ) → IsProblem p → IsLegal p q → 1 ≤ length (moves_after p q)
some_moves p q sound legal = (row_after p q sound legal).some

-- a legal prefix that isn't whole, with a move after it, is legal
pub child_is_legal : (p : Problem) (q : List ℕ) (d : ℕ) → IsLegal p q → length q < p.horizon → Contains (moves_after p q) d → IsLegal p (q ++ d ∷ [])
child_is_legal p q d legal short move = record {
  follows = (follows-append p.moves p.start q (d ∷ [])).1 (legal.follows, (move, tt));
  short = omega (arith, short, length-append q (d ∷ []));
}
