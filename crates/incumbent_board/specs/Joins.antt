-- What a pass knows after the passes of some seats were joined to it.
use Rattle.std.specs.Prelude.{◌≡◌, ◌+◌, ◌<◌, List, ◌++◌, length, All, sum_by}
use Rattle.std.specs.List.{flat_map}
use mathlib.Core.List.{IsPrefix}
use Rattle.search_model.specs.declared.standing.Standing.{Standing}
use Rattle.incumbent_board.specs.declared.sight.Sight.{Sight}
use Rattle.incumbent_board.specs.History.{first_of}
use Rattle.incumbent_board.specs.Boards.{SeatView}

-- a seat's pass knows what contracts see of the seat
pub record IsOfSeat (s : SeatView) (v : Sight) : Type 0 where
  pub seats : v.seats ≡ s.stands
  pub seen : v.seen ≡ s.seen
  pub placed : v.placed ≡ s.placed
  pub behind : v.behind ≡ s.behind
  pub first : first_of s.seen ≡ s.board.first
  pub begun : 0 < length s.seen
  pub some : 0 < s.stands

-- what a pass has seen and was told of are beginnings of a history
pub record AreBeginnings (v : Sight) (history : List Standing) : Type 0 where
  pub seen : IsPrefix v.seen history
  pub told : All (λ seen. IsPrefix seen history) v.told

-- a pass that knew v knows, beside it, what some seats know
pub record Gathers (v : Sight) (joined : List SeatView) (w : Sight) : Type 0 where
  pub seats : w.seats ≡ v.seats + sum_by (λ s. s.stands) joined
  pub placed : w.placed ≡ v.placed ++ flat_map (λ s. s.placed) joined
  pub behind : w.behind ≡ v.behind ++ flat_map (λ s. s.behind) joined
  pub seen : (history : List Standing) → AreBeginnings w history → AreBeginnings v history × All (λ s. IsPrefix s.seen history) joined
