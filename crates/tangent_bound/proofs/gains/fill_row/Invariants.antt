use Rattle.std.proofs.Common.{ℕ, ◌≡◌, ◌+◌, ◌<◌, List, slice_index}
use Rattle.search_model.specs.Bounds.{gain_of}
use Rattle.tangent_bound.specs.Gains.{IsMet}
use Rattle.tangent_bound.proofs.gains.fill_row.Given as goal

-- the gains so far, and those of earlier periods as they were
abbrev pub invariant-loop-a : goal.invariant-loop-a
invariant-loop-a l = record {
  row : (path : List ℕ) → IsMet l.sc path l.t l.without l.taken l.backward → (j : ℕ) → j < l.a-index →
      slice_index l.gains (l.here + slice_index l.some j) ≡ gain_of l.sc l.rate path l.t (slice_index l.some j);
  earlier : (i : ℕ) → i < l.here → slice_index l.gains i ≡ slice_index l.initial.gains i;
}
