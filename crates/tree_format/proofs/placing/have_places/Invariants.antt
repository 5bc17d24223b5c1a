use Rattle.tree_format.proofs.Placements.{AreLeft}
use Rattle.tree_format.proofs.placing.have_places.Given as goal

abbrev pub invariant-loop-node : goal.invariant-loop-node
invariant-loop-node l = AreLeft l.sc l.records l.node-index l.places
