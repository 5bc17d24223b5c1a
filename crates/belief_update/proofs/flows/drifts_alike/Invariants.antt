use Rattle.std.proofs.Common.{◌≡◌, ◌<◌, ◌≤◌, ℕ}
use Rattle.drift_chain.specs.DriftRows.{row_of}
use Rattle.belief_update.proofs.flows.drifts_alike.Given as goal

-- the periods so far
abbrev pub invariant-loop-t : goal.invariant-loop-t
invariant-loop-t l = (t c : ℕ) → 1 ≤ t → t < l.t → c < l.sc.cells → row_of l.sc.drift t c ≡ row_of l.sc.drift 1 c
