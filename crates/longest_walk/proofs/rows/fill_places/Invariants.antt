use Rattle.std.proofs.Common.{◌≡◌, ◌+◌, ◌<◌, ◌≤◌, ℕ, slice_index}
use Rattle.search_grid.specs.Moves.{moves_from}
use Rattle.search_model.specs.Bounds.{greatest}
use Rattle.longest_walk.specs.Rows.{sums_at}
use Rattle.longest_walk.proofs.rows.fill_places.Given as goal

-- the places so far, and the rows after it as they were
abbrev pub invariant-loop-c : goal.invariant-loop-c
invariant-loop-c l = record {
  row : (j : ℕ) → j < l.c-index → let c = slice_index l.some j in
      slice_index l.sums (l.here + c) ≡ slice_index l.rewards (l.here + c) + greatest (sums_at l.initial.sums l.next (moves_from l.grid c));
  later : (i : ℕ) → l.next ≤ i → slice_index l.sums i ≡ slice_index l.initial.sums i;
}
