-- The workers of a search together: before they go, and when all have left.
use Rattle.std.specs.Prelude.{◌≡◌, ◌≢◌, List, map, All, Any}
use Rattle.search_model.specs.declared.standing.Standing.{Standing}
use Rattle.search_model.specs.Problem.{Problem}
use Rattle.bound_tree.specs.Close.{IsExact}
use Rattle.steal_pool.specs.Pools.{IsWhole}
use Rattle.node_tickets.specs.Seats.{TicketsView, IsSeatOf as IsTicketOf, AreAllSeats as AreAllTickets, MayDraw}
use Rattle.incumbent_board.specs.Boards.{BoardView, IsSeatOf, AreAllSeats}
use Rattle.tree_gather.specs.Hauls.{IsHaulBalanced}
use Rattle.search_workers.specs.declared.left.Left.{Left}
use Rattle.search_workers.specs.declared.left.Left.TheVariants.{Idle, Full, NoMemory}
use Rattle.search_workers.specs.declared.crew.Member.{Member}
use Rattle.search_workers.specs.Desks.{IsInOrder}
use Rattle.search_workers.specs.Workers.{WorkerView, haul_of, IsReady, LeavesAs}

-- no worker is missing: these have all kits of one pool, in the order of their places, and all seats of the tickets and of
-- the board
pub record IsComplete (t : TicketsView) (b : BoardView) (crew : List Member) : Type 0 where
  pub kits : IsWhole (map (λ m. m.worker.kit) crew)
  pub tickets : AreAllTickets t (map (λ m. m.worker.desk.ticket) crew)
  pub seats : AreAllSeats b (map (λ m. m.worker.desk.seat) crew)

-- a worker may go, in a search from the board's first standing
pub record MayGo (p : Problem) (tickets : TicketsView) (board : BoardView) (w : WorkerView) : Type 0 where
  pub ticket : IsTicketOf tickets w.desk.ticket
  pub may : MayDraw w.desk.ticket
  pub seat : IsSeatOf board w.desk.seat
  pub first : IsExact p board.first
  pub ready : IsReady p board.first w

-- a worker has gone: what it brings back is balanced, its desk is in order, and it left as it says
pub record HasGone (p : Problem) (first : Standing) (m : Member) : Type 0 where
  pub balanced : IsHaulBalanced p (haul_of m.worker)
  pub order : IsInOrder p first m.worker.desk
  pub leaves : LeavesAs p m.worker m.left

-- some worker left so
abbrev pub SomeLeft : List Member → Left → Type 0
SomeLeft crew left = Any (λ m. m.left ≡ left) crew

-- how the workers left together: without memory where it ran out for one, whatever the others met; else full where one drew a
-- number that isn't below the limit; else idle
abbrev pub LeaveTogether : List Member → Left → Type 0
LeaveTogether crew Idle = All (λ m. m.left ≡ Idle) crew
LeaveTogether crew Full = SomeLeft crew Full × All (λ m. m.left ≢ NoMemory) crew
LeaveTogether crew NoMemory = SomeLeft crew NoMemory
