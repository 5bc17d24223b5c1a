use Rattle.scenario_text.proofs.Places.{Placed}
use Rattle.scenario_text.proofs.assembling.parts_of.Given as goal

abbrev pub invariant-loop-entry : goal.invariant-loop-entry
invariant-loop-entry l = Placed l.cells l.entries l.entry-index l.parts.items
