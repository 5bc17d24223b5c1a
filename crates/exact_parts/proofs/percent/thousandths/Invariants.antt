use Rattle.std.proofs.Common.{◌^◌}
use Rattle.exact_parts.proofs.Percents.{Divided}
use Rattle.exact_parts.proofs.percent.thousandths.Given as goal

abbrev pub invariant-loop-k : goal.invariant-loop-k
invariant-loop-k l = Divided l.v l.w (10 ^ l._k) l.n l.rest
