use Rattle.std.proofs.Common.{◌≡◌, ◌+◌, ◌-◌, ◌<◌, ◌≤◌, ◌⊎◌, ℕ, [], length, map, take, drop, All}
use Rattle.crossbeam_deque.specs.Handles.{view, worker_view, worker_deque, stealer_deque}
use Rattle.steal_pool.specs.Rule.{takes_of}
use Rattle.steal_pool.specs.News.{IsNewOwn}
use Rattle.steal_pool.specs.Pools.{passes_at}
use Rattle.steal_pool.proofs.making.deal_range.Given as goal

-- the places before this one have given a pass each
abbrev pub invariant-loop-at : goal.invariant-loop-at
invariant-loop-at g l = record {
  low : l.from ≤ l.at;
  high : l.to ≤ length l.owns.items;
  same : map (λ w. worker_deque w) l.owns.items ≡ map (λ w. worker_deque w) l.initial.owns.items;
  new : All IsNewOwn l.owns.items;
  left : (i : ℕ) → l.at ≤ i → i < l.to → 1 < passes_at (map (λ w. worker_view w) l.owns.items) i;
  passes : (i : ℕ) → l.from ≤ i → i < l.at → passes_at (map (λ w. worker_view w) l.owns.items) i + 1 ≡ passes_at (map (λ w. worker_view w) l.initial.owns.items) i;
  others : (i : ℕ) → (i < l.from) ⊎ (l.at ≤ i) → passes_at (map (λ w. worker_view w) l.owns.items) i ≡ passes_at (map (λ w. worker_view w) l.initial.owns.items) i;
  victims : map (λ v. stealer_deque v.thief) l.victims.items ≡ take (l.at - l.from) (drop l.from (map (λ w. worker_deque w) l.initial.owns.items));
  taken : takes_of (map (λ v. view v.pass) l.victims.items) ≡ [];
}
