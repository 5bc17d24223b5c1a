use Rattle.std.proofs.Common.{◌≡◌, ◌+◌, ◌<◌, ℕ, [], length, map, take, vec_len, All}
use Rattle.crossbeam_deque.specs.Handles.{worker_view, worker_deque}
use Rattle.steal_pool.specs.News.{IsNewOwn, IsFresh}
use Rattle.steal_pool.specs.Pools.{EachAt, IsRest, passes_at, rest_taken}
use Rattle.steal_pool.proofs.making.assemble_all.Given as goal

-- the kits of the last places are made
abbrev pub invariant-loop-own : goal.invariant-loop-own
invariant-loop-own g l = record {
  deques : map (λ w. worker_deque w) l.owns.items ≡ take (length l.owns.items) (map (λ w. worker_deque w) l.initial.owns.items);
  new : All IsNewOwn l.owns.items;
  passes : (i : ℕ) → i < length l.owns.items → passes_at (map (λ w. worker_view w) l.owns.items) i + length l.initial.owns.items ≡ 17;
  many : length l.rests.items ≡ length l.owns.items;
  rests : EachAt l.rests.items (λ i r. IsRest (map (λ w. worker_deque w) l.initial.owns.items) i r × (rest_taken r ≡ []));
  made : length l.kits.items + length l.owns.items ≡ length l.initial.owns.items;
  each : EachAt l.kits.items (λ i k. (k.pool ≡ map (λ w. worker_deque w) l.initial.owns.items) × (k.place + i + 1 ≡ length l.initial.owns.items) × IsFresh k);
}

abbrev pub decreases-loop-own : goal.decreases-loop-own
decreases-loop-own g l = vec_len l.owns
