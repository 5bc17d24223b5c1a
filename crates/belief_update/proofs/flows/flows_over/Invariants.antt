use Rattle.std.proofs.Common.{◌≡◌, ◌<◌, ℕ, length, slice_index_or}
use Rattle.belief_update.specs.Flows.{FlowState, IsFlow}
use Rattle.belief_update.proofs.flows.flows_over.Given as goal

-- a flow for each cell so far
abbrev pub invariant-loop-c : goal.invariant-loop-c
invariant-loop-c l = record {
  size : length l.flows.items ≡ l.c;
  each : (a : ℕ) (none : FlowState) → a < l.c → IsFlow l.sc a (slice_index_or l.flows.items a none);
}
