-- What contracts see of tickets and of their seats.
use Rattle.std.specs.Prelude.{◌≡◌, ℕ, ◌<◌, List, [], All, nat_lt}
use Rattle.std.specs.List.{sum_by, count_by}
use Rattle.atomic_table.specs.Seated.{TableId}

-- which tickets they are
abbrev pub TicketsId : Type 0
TicketsId = TableId

-- which tickets they are, and their limit
pub record TicketsView : Type 0 where
  pub id : TicketsId
  pub limit : ℕ

-- of which tickets it is, their limit, for how many seats it stands, and the numbers that it drew, in their order
pub record SeatView : Type 0 where
  pub tickets : TicketsId
  pub limit : ℕ
  pub stands_for : ℕ
  pub drawn : List ℕ

-- for how many seats all seats of some tickets stand together: one for each of 16 workers, of whom those that a search
-- doesn't have leave theirs with one of the others
abbrev pub ALL_SEATS : ℕ
ALL_SEATS = 16

-- the most numbers that tickets give out
abbrev pub MOST_NUMBERS : ℕ
MOST_NUMBERS = 1048576

-- it is a seat of these tickets
abbrev pub IsSeatOf : TicketsView → SeatView → Type 0
IsSeatOf t seat = (seat.tickets ≡ t.id) × (seat.limit ≡ t.limit)

-- it is a seat of these tickets that stands for as many seats as before, whatever it drew meanwhile
abbrev pub KeepsSeat : TicketsView → SeatView → SeatView → Type 0
KeepsSeat t old new = IsSeatOf t new × (new.stands_for ≡ old.stands_for)

-- these are all seats of some tickets, in any order
pub record AreAllSeats (t : TicketsView) (seats : List SeatView) : Type 0 where
  pub each : All (IsSeatOf t) seats
  pub all : sum_by (λ seat. seat.stands_for) seats ≡ ALL_SEATS

-- nothing was drawn by it
abbrev pub IsFresh : SeatView → Type 0
IsFresh seat = seat.drawn ≡ []

-- it hasn't drawn a number at the limit or above it
abbrev pub MayDraw : SeatView → Type 0
MayDraw seat = All (λ n. n < seat.limit) seat.drawn

-- the numbers that it drew, in their order
abbrev pub drawn_by : SeatView → List ℕ
drawn_by seat = seat.drawn

-- how many numbers below the limit it drew
abbrev pub numbers_of : SeatView → ℕ
numbers_of seat = count_by (λ n. nat_lt n seat.limit) seat.drawn
