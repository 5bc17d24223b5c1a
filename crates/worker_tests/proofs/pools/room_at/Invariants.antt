use Rattle.std.proofs.Common.{◌≡◌, length}
use Rattle.steal_pool.specs.Pools.{IsWhole}
use Rattle.worker_tests.proofs.pools.room_at.Given as goal

abbrev pub invariant-loop-task : goal.invariant-loop-task
invariant-loop-task l = record {
  whole : IsWhole l.kits.items;
  many : length l.kits.items ≡ length l.fn.kits.items;
}
