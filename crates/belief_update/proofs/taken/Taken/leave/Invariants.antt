use Rattle.std.proofs.Common.{◌≡◌, ◌<◌, ℕ, List, slice_index}
use Rattle.belief_update.specs.Masses.{mass_of, looks_to}
use Rattle.belief_update.specs.Taken.{IsBeside}
use Rattle.belief_update.proofs.taken.Taken.leave.Given as goal

-- the cells so far
abbrev pub invariant-loop-c : goal.invariant-loop-c
invariant-loop-c l = (q r : List ℕ) → IsBeside l.sc q r l.without l.self → (k : ℕ) → k < l.c → slice_index l.left k ≡ mass_of l.sc (looks_to l.self.period r) k
