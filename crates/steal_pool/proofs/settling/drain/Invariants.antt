use Rattle.std.proofs.Common.{◌≡◌, ◌-◌, ◌++◌, length, IsPermutation}
use Rattle.crossbeam_deque.specs.Handles.{worker_view, worker_flavor}
use Rattle.steal_pool.specs.Rule.{ALL}
use Rattle.steal_pool.proofs.settling.drain.Given as goal

-- each task that was taken went out
abbrev pub invariant-loop-task : goal.invariant-loop-task
invariant-loop-task g l = record {
  fifo : worker_flavor l.own ≡ 0;
  passes : (worker_view l.own).passes ≡ ALL;
  put : (worker_view l.own).put ≡ (worker_view l.initial.own).put;
  taken : IsPermutation ((worker_view l.own).taken ++ l.initial.out.items) ((worker_view l.initial.own).taken ++ l.out.items);
}

-- as many tasks as were put and not taken
abbrev pub decreases-loop-task : goal.decreases-loop-task
decreases-loop-task g l = length (worker_view l.own).put - length (worker_view l.own).taken
