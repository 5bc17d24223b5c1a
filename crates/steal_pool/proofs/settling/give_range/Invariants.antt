use Rattle.std.proofs.Common.{◌≡◌, ◌+◌, ◌<◌, ◌≤◌, ◌++◌, ◌⊎◌, ℕ, length, map, IsPermutation, vec_len, slice_get, All}
use Rattle.crossbeam_deque.specs.Handles.{view, worker_view, worker_deque, stealer_deque}
use Rattle.steal_pool.specs.Rule.{puts_of, takes_of}
use Rattle.steal_pool.specs.Pools.{IsOwner, passes_at}
use Rattle.steal_pool.proofs.settling.give_range.Given as goal

-- the passes of the last places are back
abbrev pub invariant-loop-victim : goal.invariant-loop-victim
invariant-loop-victim g l = record {
  owner : All IsOwner l.owns.items;
  room : l.from + length l.victims.items ≤ length l.owns.items;
  fewer : length l.victims.items ≤ length l.initial.victims.items;
  victims : (k : ℕ) → k < length l.victims.items → slice_get (map (λ v. stealer_deque v.thief) l.victims.items) k ≡ slice_get (map (λ w. worker_deque w) l.owns.items) (l.from + k);
  some : (i : ℕ) → i < length l.owns.items → 0 < passes_at (map (λ w. worker_view w) l.owns.items) i;
  same : map (λ w. worker_deque w) l.owns.items ≡ map (λ w. worker_deque w) l.initial.owns.items;
  taken : IsPermutation (takes_of (map (λ w. worker_view w) l.owns.items) ++ takes_of (map (λ v. view v.pass) l.victims.items))
      (takes_of (map (λ w. worker_view w) l.initial.owns.items) ++ takes_of (map (λ v. view v.pass) l.initial.victims.items));
  put : puts_of (map (λ w. worker_view w) l.owns.items) ≡ puts_of (map (λ w. worker_view w) l.initial.owns.items);
  passes : (i : ℕ) → l.from + length l.victims.items ≤ i → i < l.from + length l.initial.victims.items →
      passes_at (map (λ w. worker_view w) l.owns.items) i ≡ passes_at (map (λ w. worker_view w) l.initial.owns.items) i + 1;
  others : (i : ℕ) → (i < l.from + length l.victims.items) ⊎ (l.from + length l.initial.victims.items ≤ i) →
      passes_at (map (λ w. worker_view w) l.owns.items) i ≡ passes_at (map (λ w. worker_view w) l.initial.owns.items) i;
}

abbrev pub decreases-loop-victim : goal.decreases-loop-victim
decreases-loop-victim g l = vec_len l.victims
