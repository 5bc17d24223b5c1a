use Rattle.std.proofs.Common.{◌≡◌, ◌<◌, ℕ}
use Rattle.drift_chain.specs.DriftRows.{row_of}
use Rattle.belief_update.proofs.flows.has_first_steps.Given as goal

-- the steps from the cells so far
abbrev pub invariant-loop-c : goal.invariant-loop-c
invariant-loop-c l = (c : ℕ) → c < l.c → row_of l.sc.drift l.t c ≡ row_of l.sc.drift 1 c
