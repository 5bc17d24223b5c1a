use Rattle.std.proofs.Common.{◌≡◌, Some, map, length}
use Rattle.belief_update.specs.Belief.{IsBelief}
use Rattle.opening_path.specs.Greedy.{IsOpened}
use Rattle.opening_path.proofs.greedy.opening.Given as goal

-- the moves taken so far, with the belief after their looks
abbrev pub invariant-loop-t : goal.invariant-loop-t
invariant-loop-t l = record {
  belief : IsBelief l.sc (map Some l.path) l.here;
  opened : IsOpened l.sc l.path;
  long : length l.path ≡ l._t;
  cells : length l.trial.masses ≡ l.sc.cells;
}
