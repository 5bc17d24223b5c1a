use Rattle.path_node.specs.Room.{IsMadeFor}
use Rattle.bound_tests.proofs.nodes.tell.Given as goal

abbrev pub invariant-loop-prefix : goal.invariant-loop-prefix
invariant-loop-prefix l = IsMadeFor l.sc l.scratch
