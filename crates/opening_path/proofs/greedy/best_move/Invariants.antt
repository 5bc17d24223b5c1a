use Rattle.std.proofs.Common.{◌≡◌, length, slice_index}
use Rattle.opening_path.specs.Greedy.{left_after}
use Rattle.opening_path.proofs.FirstLeast.{IsFirstLeast}
use Rattle.opening_path.proofs.greedy.best_move.Given as goal

-- the first of the moves so far that leave the least
abbrev pub invariant-loop-i : goal.invariant-loop-i
invariant-loop-i l = record {
  first : IsFirstLeast (left_after l.sc l.prefix) l.moves l.i l.best;
  least : l.least ≡ left_after l.sc l.prefix (slice_index l.moves l.best);
  cells : length l.trial.masses ≡ l.sc.cells;
}
