use Rattle.std.proofs.Common.{◌≡◌, ℕ, length}
use Rattle.belief_update.specs.Flows.{IsFlow}
use Rattle.belief_update.proofs.flows.Flow.reach.Given as goal

-- the flow, with the steps so far
abbrev pub invariant-loop : goal.invariant-loop
invariant-loop l = record {
  flow : (a : ℕ) → IsFlow l.sc a l.fn.self → IsFlow l.sc a l.self;
  made : length l.self.spans ≡ l.counter;
}
