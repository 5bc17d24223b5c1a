-- A pool in which nothing was put or taken yet.
use Rattle.std.specs.Prelude.{◌≡◌, ◌≤◌, []}
use Rattle.std.specs.declared.alloc.Global.{Global}
use Rattle.crossbeam_deque.specs.declared.handles.Worker.{Worker}
use Rattle.crossbeam_deque.specs.Handles.{worker_view, worker_flavor, worker_port, worker_capacity, worker_index}
use Rattle.steal_pool.specs.declared.hand.Hand.{Hand}
use Rattle.steal_pool.specs.declared.deque.NoneLost.{NoneLost}
use Rattle.steal_pool.specs.Kits.{KitView, put_of, taken_of}

-- the owner's end of a deque in which nothing was put or taken
pub record IsNewOwn {T : Type 0} (own : Worker T Global (Hand T) NoneLost) : Type 0 where
  pub fifo : worker_flavor own ≡ 0
  pub port : worker_port own ≡ 0
  pub room : 4096 ≤ worker_capacity own
  pub index : worker_index own ≡ 0
  pub put : (worker_view own).put ≡ []
  pub taken : (worker_view own).taken ≡ []

-- nothing was put or taken with this kit, and no steal was tried
pub record IsFresh {T : Type 0} (k : KitView T) : Type 0 where
  pub put : put_of k ≡ []
  pub taken : taken_of k ≡ []
  pub misses : k.misses ≡ 0
