-- How many prefixes can be expected at once.
use Rattle.std.specs.Prelude.{ℕ, ◌+◌, ◌*◌, ◌≤◌, List, [], ◌∷◌, length}

-- each branch adds at most 63 prefixes, so at most 63 for each position of a prefix, and one more, are expected from it on
abbrev pub HasRoom : List (List ℕ) → Type 0
HasRoom [] = Unit {0}
HasRoom (q ∷ qs) = (length (q ∷ qs) ≤ 1 + 63 * length q) × HasRoom qs
