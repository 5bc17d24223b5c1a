use Rattle.std.proofs.Common.{◌≡◌, ◌<◌, ◌*◌, ◌^◌}
use Rattle.exact_parts.proofs.width.times_power.Given as goal

abbrev pub invariant-loop-k : goal.invariant-loop-k
invariant-loop-k l = record { is : l.product ≡ l.start * l.base ^ l._k; small : l.product < 2 ^ 127 }
