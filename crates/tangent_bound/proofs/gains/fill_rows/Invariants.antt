use Rattle.std.proofs.Common.{take}
use Rattle.belief_update.specs.Taken.{IsTakenTo}
use Rattle.tangent_bound.specs.Gains.{AreGains}
use Rattle.tangent_bound.proofs.gains.fill_rows.Given as goal

-- the gains of the periods so far, and what their looks took
abbrev pub invariant-loop-n : goal.invariant-loop-n
invariant-loop-n l = record {
  gains : AreGains l.sc l.rate l.reference l.from l.j l.n l.gains;
  taken : IsTakenTo l.sc (take l.k l.reference) l.reference l.n l.taken;
}
