-- What the calling thread does over the tasks left, at the desk of a worker.
use Rattle.std.specs.Prelude.{◌≡◌, ◌<◌, ℕ, List, [], ◌++◌, length, All}
use Rattle.search_model.specs.Problem.{Problem}
use Rattle.search_model.specs.Legal.{IsLegal}
use Rattle.bound_tree.specs.declared.node.TreeNode.{TreeNode}
use Rattle.node_tickets.specs.Seats.{TicketsView, MayDraw, IsSeatOf as IsTicketOf}
use Rattle.incumbent_board.specs.Boards.{BoardView, IsSeatOf}
use Rattle.tree_gather.specs.Hauls.{IsHaulBalanced}
use Rattle.search_workers.specs.declared.left.Left.{Left}
use Rattle.search_workers.specs.declared.left.Left.TheVariants.{Idle, Full, NoMemory}
use Rattle.search_workers.specs.Desks.{DeskView, IsInOrder, DrewFull}

-- prefixes may be closed at a desk: its seats are of these tickets and this board, it may draw, it is in order, and what
-- waits is legal
pub record MayClose (p : Problem) (tickets : TicketsView) (board : BoardView) (d : DeskView) : Type 0 where
  pub ticket : IsTicketOf tickets d.ticket
  pub may : MayDraw d.ticket
  pub seat : IsSeatOf board d.seat
  pub order : IsInOrder p board.first d
  pub legal : All (IsLegal p) d.waiting

-- work at a desk that takes up some of the tasks and leaves the others. It is a haul of its own, which began with the tasks
-- and what waited; it has the records that were added and leaves the other tasks and what waits now, and is balanced
pub record WorksOff (p : Problem) (tasks : List (List ℕ)) (old : DeskView) (left : List (List ℕ)) (new : DeskView) : Type 0 where
  pub added : List TreeNode
  pub records : new.records ≡ old.records ++ added
  pub balanced : IsHaulBalanced p (record { began = tasks ++ old.waiting; records = added; waiting = left ++ new.waiting; put = []; taken = []; last = new.last })

-- why such work ended. Idle: no task is left and nothing waits. Full: a number at the limit or above it was drawn, and
-- something waits
abbrev pub EndsWork : Left → List (List ℕ) → DeskView → Type 0
EndsWork Idle left d = MayDraw d.ticket × (left ≡ []) × (d.waiting ≡ [])
EndsWork Full left d = DrewFull d.ticket × (0 < length d.waiting)
EndsWork NoMemory left d = Unit {0}
