use Rattle.std.proofs.Common.{◌≡◌, ◌++◌, map, IsPermutation}
use Rattle.crossbeam_deque.specs.Handles.{worker_view}
use Rattle.steal_pool.specs.Rule.{puts_of, takes_of}
use Rattle.steal_pool.proofs.settling.drain_all.Given as goal

-- the deques so far are empty
abbrev pub invariant-loop-own : goal.invariant-loop-own
invariant-loop-own g l = record {
  split : l.fn.owns.items ≡ l.yielded ++ l.own-iterator.rest.items;
  drained : IsPermutation (puts_of (map (λ w. worker_view w) l.yielded)) (takes_of (map (λ w. worker_view w) l.yielded) ++ l.out.items);
}
