use Rattle.std.proofs.Common.{◌≡◌, ◌+◌, ◌<◌, ◌≤◌, ℕ, [], length, map, All}
use Rattle.crossbeam_deque.specs.Handles.{worker_view, worker_deque}
use Rattle.steal_pool.specs.News.{IsNewOwn}
use Rattle.steal_pool.specs.Pools.{EachAt, IsRest, passes_at, rest_taken}
use Rattle.steal_pool.proofs.making.deal_all.Given as goal

-- the kits so far have their victims: each deque before this place has given a pass for each of them but its own
abbrev pub invariant-loop-place : goal.invariant-loop-place
invariant-loop-place g l = record {
  many : length l.owns.items ≡ length l.initial.owns.items;
  workers : l.workers ≡ length l.owns.items;
  same : map (λ w. worker_deque w) l.owns.items ≡ map (λ w. worker_deque w) l.initial.owns.items;
  new : All IsNewOwn l.owns.items;
  before : (i : ℕ) → i < l.place → i < length l.owns.items → passes_at (map (λ w. worker_view w) l.owns.items) i + l.place ≡ 17;
  after : (i : ℕ) → l.place ≤ i → i < length l.owns.items → passes_at (map (λ w. worker_view w) l.owns.items) i + l.place ≡ 16;
  rests : length l.rests.items ≡ l.place;
  each : EachAt l.rests.items (λ i r. IsRest (map (λ w. worker_deque w) l.initial.owns.items) i r × (rest_taken r ≡ []));
}
