use Rattle.mean_bound.specs.Means.{IsMadeFor as IsMeanFor}
use Rattle.exchange_bound.specs.Exchanges.{IsMadeFor}
use Rattle.bound_tests.proofs.exchange_bounds.have_stand_ins.Given as goal

abbrev pub invariant-loop-cells : goal.invariant-loop-cells
invariant-loop-cells l = record {
  mean : IsMeanFor l.sc l.mean;
  tables : IsMadeFor l.sc l.tables;
}
