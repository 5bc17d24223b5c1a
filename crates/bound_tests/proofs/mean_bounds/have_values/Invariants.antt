use Rattle.mean_bound.specs.Means.{IsMadeFor}
use Rattle.bound_tests.proofs.mean_bounds.have_values.Given as goal

abbrev pub invariant-loop-cells : goal.invariant-loop-cells
invariant-loop-cells l = IsMadeFor l.sc l.mean
