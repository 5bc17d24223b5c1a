use Rattle.std.proofs.Common.{◌≡◌, ◌<◌, ℕ, length, map, All}
use Rattle.crossbeam_deque.specs.Handles.{worker_view}
use Rattle.steal_pool.specs.News.{IsNewOwn}
use Rattle.steal_pool.specs.Pools.{passes_at}
use Rattle.steal_pool.proofs.making.open_all.Given as goal

-- the deques so far
abbrev pub invariant-loop-made : goal.invariant-loop-made
invariant-loop-made g l = record {
  many : length l.owns.items ≡ l._made;
  new : All IsNewOwn l.owns.items;
  passes : (i : ℕ) → i < length l.owns.items → passes_at (map (λ w. worker_view w) l.owns.items) i ≡ 16;
}
