-- The order of prefixes.
use Rattle.std.proofs.Common.{◌≡◌, ℕ, true, List, AllPairs}
use Rattle.search_model.specs.Order.{smaller}

-- a prefix is smaller than another
abbrev pub IsAbove : List ℕ → List ℕ → Type 0
IsAbove q r = smaller q r ≡ true

-- each prefix is smaller than all later ones
abbrev pub Ascends : List (List ℕ) → Type 0
Ascends qs = AllPairs IsAbove qs
