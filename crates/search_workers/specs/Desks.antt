-- What contracts see of a desk, and when it is in order.
use Rattle.std.specs.Prelude.{◌≡◌, ℕ, ◌*◌, ◌<◌, ◌≤◌, List, length, slice_index_or, All, AllPairs, Contains}
use Rattle.search_model.specs.declared.standing.Standing.{Standing}
use Rattle.search_model.specs.Problem.{Problem}
use Rattle.bound_tree.specs.declared.node.TreeNode.{TreeNode}
use Rattle.bound_tree.specs.Close.{IsClosed, IsExact, IsAtLeast}
use Rattle.belief_update.specs.Belief.{BeliefState}
use Rattle.path_node.specs.Room.{NodeTables, IsMadeFor}
use Rattle.node_tickets.specs.Seats.{SeatView as TicketView, numbers_of}
use Rattle.incumbent_board.specs.Boards.{SeatView as SightView, IsSameSeat}
use Rattle.tree_gather.specs.Hauls.{Haul, IsHaulSound}
use Rattle.search_workers.specs.Incumbents.{WasTold}

-- a worker's desk: its seats at the tickets and at the board, the records that it made, the prefixes that wait on its
-- private stack, the standing that it used last, and the tables and the belief that it computes with
pub record DeskView : Type 0 where
  pub ticket : TicketView
  pub seat : SightView
  pub records : List TreeNode
  pub waiting : List (List ℕ)
  pub last : Standing
  pub tables : NodeTables
  pub belief : BeliefState

-- what a desk brings back, where this was begun with, put and taken
abbrev pub haul_at : DeskView → List (List ℕ) → List (List ℕ) → List (List ℕ) → Haul
haul_at d began put taken = record { began = began; records = d.records; waiting = d.waiting; put = put; taken = taken; last = d.last }

-- a record is made: it closes its prefix under an exact standing that is no worse than the first
pub record IsMade (p : Problem) (first : Standing) (r : TreeNode) : Type 0 where
  pub under : Standing
  pub exact : IsExact p under
  pub up : IsAtLeast under first
  pub closed : IsClosed p under r.prefix r.kind

-- below each prefix there are at most 63 others for each of its positions, so that a stack of 2,048 is never full
abbrev pub HasRoom : List (List ℕ) → Type 0
HasRoom ws = (k : ℕ) (d : List ℕ) → k < length ws → k ≤ 63 * length (slice_index_or ws k d)

-- a desk is in order, in a search from a first standing
pub record IsInOrder (p : Problem) (first : Standing) (d : DeskView) : Type 0 where
  -- what it brings back is sound
  pub sound : (began put taken : List (List ℕ)) → IsHaulSound p first (haul_at d began put taken)
  -- its records are made
  pub made : All (IsMade p first) d.records
  -- it has a record for each number below the limit that it drew
  pub counted : length d.records ≡ numbers_of d.ticket
  -- the numbers that it drew ascend
  pub ascending : AllPairs (λ m n. m < n) d.ticket.drawn
  -- it looked at the board once for each record, or more often
  pub looked : length d.records ≤ d.seat.looks
  -- the last standing is no worse than what the board showed last, if that is exact
  pub heeded : IsExact p d.seat.shown → IsAtLeast d.last d.seat.shown
  -- the last standing stood on the board, or was offered to it
  pub told : WasTold d.seat d.last
  -- what waits has room
  pub room : HasRoom d.waiting
  -- its tables and its belief are made for the scenario
  pub tables : IsMadeFor p d.tables
  pub belief : length d.belief.masses ≡ p.cells

-- the same desk at a later time: its seats are of the same tickets and the same board, and stand for as many
pub record IsSameDesk (old new : DeskView) : Type 0 where
  pub tickets : (new.ticket.tickets ≡ old.ticket.tickets) × (new.ticket.limit ≡ old.ticket.limit)
  pub stands_for : new.ticket.stands_for ≡ old.ticket.stands_for
  pub seat : IsSameSeat old.seat new.seat

-- a number at the limit or above it was drawn
abbrev pub DrewFull : TicketView → Type 0
DrewFull ticket = (n : ℕ) × Contains ticket.drawn n × (ticket.limit ≤ n)
