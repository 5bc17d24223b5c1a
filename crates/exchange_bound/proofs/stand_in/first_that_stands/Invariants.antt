use Rattle.std.proofs.Common.{ℕ, List}
use Rattle.mean_bound.specs.Means.{IsMadeFor as IsMeanFor, IsAlong, IsFilledFor}
use Rattle.exchange_bound.specs.Exchanges.{IsMadeFor}
use Rattle.exchange_bound.specs.StandIns.{AreLeft}
use Rattle.exchange_bound.proofs.stand_in.first_that_stands.Given as goal

-- all that stand in are among the candidates that weren't asked yet
abbrev pub invariant-loop-i : goal.invariant-loop-i
invariant-loop-i l = record {
  left : AreLeft l.sc l.prefix l.i l.n l.row;
  made : IsMadeFor l.sc l.tables;
  mean : IsMeanFor l.sc l.mean;
  along : IsAlong l.prefix l.mean;
  filled : (q : List ℕ) → IsFilledFor l.sc q l.fn.mean → IsFilledFor l.sc q l.mean;
}
