use Rattle.mean_bound.specs.Means.{IsMadeFor as IsMeanFor}
use Rattle.two_look_bound.specs.Rooms.{AreTablesFor}
use Rattle.bound_tests.proofs.two_looks.have_bounds.Given as goal

abbrev pub invariant-loop-cells : goal.invariant-loop-cells
invariant-loop-cells l = record {
  mean : IsMeanFor l.sc l.mean;
  tables : AreTablesFor l.sc l.tables;
}
