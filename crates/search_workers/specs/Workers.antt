-- What contracts see of a worker, and what its run promises.
use Rattle.std.specs.Prelude.{◌≡◌, ℕ, zero, suc, ◌*◌, ◌<◌, ◌≤◌, ◌⊎◌, List, [], ◌∷◌, ◌++◌, length, All, Contains}
use Rattle.search_model.specs.declared.standing.Standing.{Standing}
use Rattle.search_model.specs.Problem.{Problem}
use Rattle.search_model.specs.Legal.{IsLegal}
use Rattle.steal_pool.specs.Kits.{KitView, put_of, taken_of}
use Rattle.node_tickets.specs.Seats.{MayDraw}
use Rattle.tree_gather.specs.Hauls.{Haul, IsHaulBalanced}
use Rattle.search_workers.specs.declared.left.Left.{Left}
use Rattle.search_workers.specs.declared.left.Left.TheVariants.{Idle, Full, NoMemory}
use Rattle.search_workers.specs.Rounds.{others}
use Rattle.search_workers.specs.Desks.{DeskView, haul_at, IsInOrder, IsSameDesk, DrewFull}

-- a worker: its kit, the prefixes on its agenda, and its desk
pub record WorkerView : Type 0 where
  pub kit : KitView (List ℕ)
  pub agenda : List (List ℕ)
  pub desk : DeskView

-- worker 0 begins with the empty prefix, and the others with nothing
abbrev pub begun_by : ℕ → List (List ℕ)
begun_by zero = [] ∷ []
begun_by (suc place) = []

-- what a worker brings back: what it has on its agenda it put
abbrev pub haul_of : WorkerView → Haul
haul_of w = haul_at w.desk (begun_by w.kit.place) (put_of w.kit ++ w.agenda) (taken_of w.kit)

-- a worker that may go: its desk is in order, what waits there is legal, and its haul is balanced
pub record IsReady (p : Problem) (first : Standing) (w : WorkerView) : Type 0 where
  pub order : IsInOrder p first w.desk
  pub legal : All (IsLegal p) w.desk.waiting
  pub balanced : IsHaulBalanced p (haul_of w)

-- why a worker left. Full: it drew a number at the limit or above it, and a legal prefix waits. Idle: no legal prefix
-- waits; one that isn't legal does, or nothing is on the agenda and 1,024 steals in a row at each other worker got no task
abbrev pub LeavesAs : Problem → WorkerView → Left → Type 0
LeavesAs p w Idle = MayDraw w.desk.ticket × All (λ q. ¬ IsLegal p q) w.desk.waiting × ((0 < length w.desk.waiting) ⊎ ((w.agenda ≡ []) × (1024 * others w.kit ≤ w.kit.misses)))
LeavesAs p w Full = DrewFull w.desk.ticket × ((q : List ℕ) × Contains w.desk.waiting q × IsLegal p q)
LeavesAs p w NoMemory = MayDraw w.desk.ticket

-- the same worker at a later time
pub record IsSameWorker (old new : WorkerView) : Type 0 where
  pub pool : new.kit.pool ≡ old.kit.pool
  pub place : new.kit.place ≡ old.kit.place
  pub desk : IsSameDesk old.desk new.desk

-- what the run of a worker promises, in a search from a first standing
pub record Went (p : Problem) (first : Standing) (old : WorkerView) (left : Left) (new : WorkerView) : Type 0 where
  pub same : IsSameWorker old new
  pub balanced : IsHaulBalanced p (haul_of new)
  pub order : IsInOrder p first new.desk
  pub leaves : LeavesAs p new left
