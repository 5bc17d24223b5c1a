use Rattle.std.proofs.Common.{◌≡◌, ◌<◌, ℕ, length, slice_index}
use Rattle.search_model.specs.Bounds.{reward_of}
use Rattle.edge_bound.proofs.rows.fill_rewards.Given as goal

-- the positions so far
abbrev pub invariant-loop-b : goal.invariant-loop-b
invariant-loop-b l = record {
  gains : (j : ℕ) → j < l.b-index → let b = slice_index l.some j in slice_index l.gains b ≡ reward_of l.sc l.prefix l.t b;
  size : length l.gains ≡ length l.initial.gains;
}
