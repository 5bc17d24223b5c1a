use Rattle.std.proofs.Common.{◌≡◌, ℕ, ◌<◌, List, get_or}
use Rattle.search_core.proofs.lists.place_of.Given as goal

-- the prefix isn't among those before i
abbrev pub invariant-loop-i : goal.invariant-loop-i
invariant-loop-i l = (k : ℕ) (d : List ℕ) → k < l.i → get_or l.list k d ≡ l.prefix → ⊥
