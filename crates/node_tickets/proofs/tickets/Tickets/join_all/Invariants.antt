use Rattle.std.proofs.Common.{◌≡◌, ◌+◌, ◌++◌, All, IsPermutation, vec_len}
use Rattle.std.specs.List.{flat_map, sum_by}
use Rattle.node_tickets.specs.Seats.{IsSeatOf, drawn_by}
use Rattle.node_tickets.proofs.tickets.Tickets.join_all.Given as goal

-- the seat has what it had and what those that are gone had
abbrev pub invariant-loop-seat : goal.invariant-loop-seat
invariant-loop-seat l = record {
  whole : IsSeatOf l.self l.whole;
  seats : All (IsSeatOf l.self) l.seats.items;
  stands : l.whole.stands_for + sum_by (λ s. s.stands_for) l.seats.items ≡ l.initial.whole.stands_for + sum_by (λ s. s.stands_for) l.initial.seats.items;
  drawn : IsPermutation (l.whole.drawn ++ flat_map drawn_by l.seats.items) (l.initial.whole.drawn ++ flat_map drawn_by l.initial.seats.items);
}

abbrev pub decreases-loop-seat : goal.decreases-loop-seat
decreases-loop-seat l = vec_len l.seats
