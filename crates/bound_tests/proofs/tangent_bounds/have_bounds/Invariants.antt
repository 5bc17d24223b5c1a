use Rattle.mean_bound.specs.Means.{IsMadeFor as IsMeanFor}
use Rattle.tangent_bound.specs.Room.{IsMadeFor, AreTablesFor}
use Rattle.bound_tests.proofs.tangent_bounds.have_bounds.Given as goal

abbrev pub invariant-loop-case : goal.invariant-loop-case
invariant-loop-case l = record {
  tangent : IsMadeFor l.sc l.tangent;
  tables : AreTablesFor l.sc l.tables;
  mean : IsMeanFor l.sc l.mean;
}
