use Rattle.std.proofs.Common.{◌≡◌, ◌+◌, length, All}
use Rattle.std.specs.List.{sum_by}
use Rattle.node_tickets.specs.Seats.{ALL_SEATS, IsSeatOf, IsFresh}
use Rattle.node_tickets.proofs.tickets.Tickets.deal_all.Given as goal

-- each seat so far stands for one, and the last one for those that are left
abbrev pub invariant-loop-made : goal.invariant-loop-made
invariant-loop-made l = record {
  whole : IsSeatOf l.self l.whole;
  fresh : IsFresh l.whole;
  left : l.whole.stands_for + length l.dealt.items ≡ ALL_SEATS;
  many : length l.dealt.items + 1 ≡ l._made;
  each : All (IsSeatOf l.self) l.dealt.items;
  ones : sum_by (λ s. s.stands_for) l.dealt.items ≡ length l.dealt.items;
  all_fresh : All IsFresh l.dealt.items;
}
