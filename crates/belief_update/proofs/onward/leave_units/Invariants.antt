use Rattle.std.proofs.Common.{◌≡◌, ◌+◌, ◌++◌, ◌∷◌, [], ℕ, List, length}
use Rattle.belief_update.specs.Onward.{AreOnwardTo, IsOnward, HaveCellsFrom}
use Rattle.belief_update.proofs.onward.leave_units.Given as goal

-- the beliefs up to period t
abbrev pub invariant-loop-t : goal.invariant-loop-t
invariant-loop-t l = record {
  cells : HaveCellsFrom l.sc (l.k + 1) l.rows;
  rows : (q : List ℕ) → length q ≡ l.k → IsOnward l.sc q l.before → AreOnwardTo l.sc (q ++ l.a ∷ []) l.t l.rows;
}
