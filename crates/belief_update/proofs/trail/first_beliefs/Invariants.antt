use Rattle.std.proofs.Common.{◌≡◌, [], ◌∷◌, None, length, All}
use Rattle.belief_update.specs.Belief.{IsBelief}
use Rattle.belief_update.proofs.trail.first_beliefs.Given as goal

-- one belief for each period so far
abbrev pub invariant-loop : goal.invariant-loop
invariant-loop l = record {
  size : length l.beliefs.items ≡ l.counter;
  each : All (IsBelief l.sc (None ∷ [])) l.beliefs.items;
}
