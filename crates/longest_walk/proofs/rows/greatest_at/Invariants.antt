use Rattle.std.proofs.Common.{◌≡◌, max, drop}
use Rattle.search_model.specs.Bounds.{greatest}
use Rattle.longest_walk.specs.Rows.{sums_at}
use Rattle.longest_walk.proofs.rows.greatest_at.Given as goal

-- the best so far, or the greatest of what is left
abbrev pub invariant-loop-d : goal.invariant-loop-d
invariant-loop-d l = max l.best (greatest (sums_at l.sums l.row (drop l.d-index l.moves))) ≡ greatest (sums_at l.sums l.row l.moves)
