use Rattle.belief_update.proofs.FlowSteps.{NotedFront}
use Rattle.belief_update.proofs.flows.note.Given as goal

-- the cells so far
abbrev pub invariant-loop-c : goal.invariant-loop-c
invariant-loop-c l = NotedFront l.masses l.c l.initial.entries.items l.entries.items
