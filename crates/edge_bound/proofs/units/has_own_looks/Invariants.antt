use Rattle.std.proofs.Common.{◌<◌, ℕ}
use Rattle.belief_update.specs.Flows.{IsOwn}
use Rattle.edge_bound.proofs.units.has_own_looks.Given as goal

-- the positions so far
abbrev pub invariant-loop-b : goal.invariant-loop-b
invariant-loop-b l = (b : ℕ) → b < l.b → IsOwn l.sc b
