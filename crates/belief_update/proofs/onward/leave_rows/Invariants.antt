use Rattle.std.proofs.Common.{◌≡◌, ◌+◌, ◌++◌, ◌∷◌, [], ℕ, List, length}
use Rattle.belief_update.specs.Taken.{IsTaken}
use Rattle.belief_update.specs.Onward.{AreOnwardTo, IsOnward, HaveCellsFrom}
use Rattle.belief_update.proofs.onward.leave_rows.Given as goal

-- what the look takes in period t, and the beliefs up to that period
abbrev pub invariant-loop-t : goal.invariant-loop-t
invariant-loop-t l = record {
  cells : HaveCellsFrom l.sc (l.k + 1) l.rows;
  period : l.taken.period ≡ l.t;
  taken : (q : List ℕ) → length q ≡ l.k → IsOnward l.sc q l.before → IsTaken l.sc q (q ++ l.a ∷ []) l.taken;
  rows : (q : List ℕ) → length q ≡ l.k → IsOnward l.sc q l.before → AreOnwardTo l.sc (q ++ l.a ∷ []) l.t l.rows;
}
