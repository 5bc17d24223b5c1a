-- What contracts see of a board and of its seats.
use Rattle.std.specs.Prelude.{ℕ, ◌≡◌, ◌<◌, List, [], ◌∷◌, ◌++◌, length, slice_index_or, All, sum_by, IsPermutation}
use Rattle.std.specs.List.{flat_map}
use mathlib.Core.List.{IsPrefix}
use Rattle.atomic_table.specs.Seated.{TableId}
use Rattle.search_model.specs.declared.standing.Standing.{Standing}
use Rattle.incumbent_board.specs.History.{last_of, Rises}

-- which board it is, and the standing that it was started with
pub record BoardView : Type 0 where
  pub cell : TableId
  pub first : Standing

-- a seat's board, and for how many of its 16 seats it stands; the history, as far as the seat has seen it; its own offers,
-- those that were placed apart from those that were behind; how often it has looked, and the standing that its last look
-- answered
pub record SeatView : Type 0 where
  pub board : BoardView
  pub stands : ℕ
  pub seen : List Standing
  pub placed : List Standing
  pub behind : List Standing
  pub looks : ℕ
  pub shown : Standing

-- the standings that a seat offered
abbrev pub offers_of : SeatView → List Standing
offers_of s = s.placed ++ s.behind

-- a seat of a board
abbrev pub IsSeatOf : BoardView → SeatView → Type 0
IsSeatOf b s = s.board ≡ b

-- the same seat at a later time
abbrev pub IsSameSeat : SeatView → SeatView → Type 0
IsSameSeat old new = (new.board ≡ old.board) × (new.stands ≡ old.stands)

-- all seats of a board: together they stand for 16, since one of them stands for those that weren't asked for, too
pub record AreAllSeats (b : BoardView) (seats : List SeatView) : Type 0 where
  pub each : All (λ s. IsSeatOf b s) seats
  pub all : sum_by (λ s. s.stands) seats ≡ 16

-- nothing was looked at or offered yet
pub record IsNewSeat (first : Standing) (s : SeatView) : Type 0 where
  pub seen : s.seen ≡ first ∷ []
  pub placed : s.placed ≡ []
  pub behind : s.behind ≡ []
  pub looks : s.looks ≡ 0
  pub shown : s.shown ≡ first

-- a new seat of a board, which stands for so many
abbrev pub new_seat_of : BoardView → ℕ → SeatView
new_seat_of b stands = record {
  board = b;
  stands = stands;
  seen = b.first ∷ [];
  placed = [];
  behind = [];
  looks = 0;
  shown = b.first;
}

-- the one history of a board, which ends with a standing: all that its seats have seen is a beginning of it, and all
-- entries but the first are the offers that they placed
pub record EndsWith (b : BoardView) (seats : List SeatView) (answer : Standing) : Type 0 where
  pub later : List Standing
  pub rises : Rises b.first later
  pub last : last_of (b.first ∷ later) ≡ answer
  pub seen : All (λ s. IsPrefix s.seen (b.first ∷ later)) seats
  pub placed : IsPermutation later (flat_map (λ s. s.placed) seats)

-- seats that are all seats of a board are so at any later time
abbrev pub SeatsStay : Type 0
SeatsStay = (b : BoardView) (old new : List SeatView) → length new ≡ length old → ((k : ℕ) (s : SeatView) → k < length new → IsSameSeat (slice_index_or old k s) (slice_index_or new k s))
    → AreAllSeats b old → AreAllSeats b new
