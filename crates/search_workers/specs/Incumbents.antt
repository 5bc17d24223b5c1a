-- The standing that a worker uses.
use Rattle.std.specs.Prelude.{ℕ, ◌≡◌, ◌+◌, ◌-◌, ◌^◌, min, if◌then◌else◌, List, ◌++◌, Contains}
use mathlib.Core.List.{IsPrefix}
use Rattle.search_model.specs.declared.standing.Standing.{Standing}
use Rattle.search_model.specs.Order.{better}
use Rattle.bound_tree.specs.declared.node.Kind.{Kind}
use Rattle.bound_tree.specs.declared.node.Kind.TheVariants.{Branch, Whole, Mean, Tangent, Edge, Exchange, TwoLooks}
use Rattle.incumbent_board.specs.History.{IsHistory, last_of}
use Rattle.incumbent_board.specs.Boards.{SeatView, IsSameSeat, offers_of}

-- the standing in use after a record: a better path takes its place
abbrev pub best_after : Standing → List ℕ → Kind → Standing
best_after s q Branch = s
best_after s q (Whole n) = if better (record { path = q; value = n }) s then record { path = q; value = n } else s
best_after s q (Mean b) = s
best_after s q (Tangent b whole) = s
best_after s q (Edge b) = s
best_after s q (Exchange b u) = s
best_after s q (TwoLooks b) = s

-- a seat was told of a standing: it has seen it on the board, or offered it
pub record WasTold (seat : SeatView) (s : Standing) : Type 0 where
  pub among : Contains (seat.seen ++ offers_of seat) s

-- a seat looked at the board, which is counted, and was shown the last standing of its history
pub record Looked (first : Standing) (old : SeatView) (shown : Standing) (new : SeatView) : Type 0 where
  pub same : IsSameSeat old new
  pub looks : new.looks ≡ min (old.looks + 1) (2 ^ 64 - 1)
  pub last : new.shown ≡ shown
  pub history : IsHistory first new.seen × (shown ≡ last_of new.seen)
  pub seen : IsPrefix old.seen new.seen
  pub offers : (new.placed ≡ old.placed) × (new.behind ≡ old.behind)
