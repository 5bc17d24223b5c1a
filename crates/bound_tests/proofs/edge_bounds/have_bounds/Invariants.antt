use Rattle.mean_bound.specs.Means.{IsMadeFor as IsMeanFor}
use Rattle.edge_bound.specs.Edges.{IsMadeFor, AreTablesFor}
use Rattle.bound_tests.proofs.edge_bounds.have_bounds.Given as goal

abbrev pub invariant-loop-cells : goal.invariant-loop-cells
invariant-loop-cells l = record {
  edge : IsMadeFor l.sc l.edge;
  tables : AreTablesFor l.sc l.tables;
  mean : IsMeanFor l.sc l.mean;
}
