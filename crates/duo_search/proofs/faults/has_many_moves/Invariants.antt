use Rattle.std.proofs.Common.{ℕ, ◌<◌, ◌≤◌, length}
use Rattle.search_grid.specs.Moves.{moves_from}
use Rattle.duo_search.proofs.faults.has_many_moves.Given as goal

abbrev pub invariant-loop-position : goal.invariant-loop-position
invariant-loop-position l = (i : ℕ) → i < l.position → length (moves_from l.sc.moves i) ≤ 8
