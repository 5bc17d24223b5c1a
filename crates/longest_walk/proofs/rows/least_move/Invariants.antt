use Rattle.std.proofs.Common.{◌+◌, slice_index}
use Rattle.std.specs.List.{IsFirstMaxByKey}
use Rattle.longest_walk.proofs.rows.least_move.Given as goal

-- the first of the greatest so far
abbrev pub invariant-loop-i : goal.invariant-loop-i
invariant-loop-i l = IsFirstMaxByKey (λ d. slice_index l.sums (l.row + d)) l.moves l.i l.best
