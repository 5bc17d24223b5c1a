-- The desks of a search once its kits are settled, and the tasks left.
use Rattle.std.specs.Prelude.{◌≡◌, ◌<◌, ℕ, List, [], ◌∷◌, ◌++◌, map, length, All, Any}
use Rattle.std.specs.List.{flat_map}
use Rattle.search_model.specs.declared.standing.Standing.{Standing}
use Rattle.search_model.specs.Problem.{Problem}
use Rattle.bound_tree.specs.declared.node.TreeNode.{TreeNode}
use Rattle.search_core.specs.Balance.{MeetsEquation}
use Rattle.node_tickets.specs.Seats.{TicketsView, AreAllSeats as AreAllTickets, MayDraw}
use Rattle.incumbent_board.specs.Boards.{BoardView, AreAllSeats}
use Rattle.search_workers.specs.declared.left.Left.{Left}
use Rattle.search_workers.specs.declared.left.Left.TheVariants.{Idle, Full, NoMemory}
use Rattle.search_workers.specs.Desks.{DeskView, IsInOrder, DrewFull}

-- the records at some desks, and what waits there or is left as a task
abbrev pub closed_at : List DeskView → List TreeNode
closed_at desks = flat_map (λ d. d.records) desks

abbrev pub waiting_at : List (List ℕ) → List DeskView → List (List ℕ)
waiting_at tasks desks = tasks ++ flat_map (λ d. d.waiting) desks

-- these are all desks of a search, and all that it has: they have all seats of the tickets and of the board, each is in
-- order, and the balance equation holds with nothing pooled and what waits held
pub record IsSettled (p : Problem) (t : TicketsView) (b : BoardView) (tasks : List (List ℕ)) (desks : List DeskView) : Type 0 where
  pub tickets : AreAllTickets t (map (λ d. d.ticket) desks)
  pub seats : AreAllSeats b (map (λ d. d.seat) desks)
  pub order : All (IsInOrder p b.first) desks
  pub even : MeetsEquation p [] (waiting_at tasks desks) (closed_at desks)

-- at some desk a number at the limit or above it was drawn, and something waits
abbrev pub SomeFull : List DeskView → Type 0
SomeFull desks = Any (λ d. DrewFull d.ticket × (0 < length d.waiting)) desks

-- how the workers left their desks
abbrev pub LeaveDesks : Left → List DeskView → Type 0
LeaveDesks Idle desks = All (λ d. MayDraw d.ticket × (d.waiting ≡ [])) desks
LeaveDesks Full desks = SomeFull desks
LeaveDesks NoMemory desks = Unit {0}

-- how the search ended. Idle: nothing waits
abbrev pub EndsSearch : Left → List (List ℕ) → List DeskView → Type 0
EndsSearch Idle tasks desks = waiting_at tasks desks ≡ []
EndsSearch Full tasks desks = SomeFull desks
EndsSearch NoMemory tasks desks = Unit {0}

-- a fact of a search whose end isn't that memory ran out
abbrev pub WithMemory : Left → Type 0 → Type 0
WithMemory Idle fact = fact
WithMemory Full fact = fact
WithMemory NoMemory fact = Unit {0}

-- the first standing of a search, and those that were used last at its desks
abbrev pub lasts_at : Standing → List DeskView → List Standing
lasts_at first desks = first ∷ map (λ d. d.last) desks
