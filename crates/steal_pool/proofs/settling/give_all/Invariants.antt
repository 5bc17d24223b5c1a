use Rattle.std.proofs.Common.{◌≡◌, ◌+◌, ◌<◌, ◌≤◌, ◌++◌, ℕ, length, map, IsPermutation, vec_len, All}
use Rattle.std.specs.List.{flat_map}
use Rattle.crossbeam_deque.specs.Handles.{worker_view, worker_deque}
use Rattle.steal_pool.specs.Rule.{puts_of, takes_of}
use Rattle.steal_pool.specs.Pools.{EachAt, IsOwner, IsRest, passes_at, rest_taken}
use Rattle.steal_pool.proofs.settling.give_all.Given as goal

-- the passes of the last kits are back: each deque of these has one more to come than each of the others
abbrev pub invariant-loop-rest : goal.invariant-loop-rest
invariant-loop-rest g l = record {
  owner : All IsOwner l.owns.items;
  many : length l.owns.items ≡ length l.initial.owns.items;
  fewer : length l.rests.items ≤ length l.owns.items;
  same : map (λ w. worker_deque w) l.owns.items ≡ map (λ w. worker_deque w) l.initial.owns.items;
  each : EachAt l.rests.items (λ i r. IsRest (map (λ w. worker_deque w) l.owns.items) i r);
  before : (i : ℕ) → i < length l.rests.items → passes_at (map (λ w. worker_view w) l.owns.items) i + length l.rests.items ≡ 17;
  after : (i : ℕ) → length l.rests.items ≤ i → i < length l.owns.items → passes_at (map (λ w. worker_view w) l.owns.items) i + length l.rests.items ≡ 16;
  put : puts_of (map (λ w. worker_view w) l.owns.items) ≡ puts_of (map (λ w. worker_view w) l.initial.owns.items);
  taken : IsPermutation (takes_of (map (λ w. worker_view w) l.owns.items) ++ flat_map rest_taken l.rests.items)
      (takes_of (map (λ w. worker_view w) l.initial.owns.items) ++ flat_map rest_taken l.initial.rests.items);
}

abbrev pub decreases-loop-rest : goal.decreases-loop-rest
decreases-loop-rest g l = vec_len l.rests
