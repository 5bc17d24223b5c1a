-- The fields of a line: words, numbers, names of cells, and pairs of a name with its part.
use Rattle.std.specs.Prelude.{ℕ, ◌%◌, Bool, true, false, ◌&&◌, ◌==◌, nat_lt, nat_le, List, [], ◌∷◌, length, Option, unwrap_or, position}
use Rattle.std.specs.Str.{bytes_eq}
use Rattle.exact_parts.specs.declared.number.Number.{Number}
use Rattle.exact_parts.specs.declared.number.Number.TheVariants.{NotPlain, Above, Of}
use Rattle.exact_parts.specs.Decimal.{number_at}
use Rattle.period_rows.specs.declared.part.CellPart.{CellPart}

-- blanks alone, or a comment
abbrev pub says_nothing : List (List ℕ) → Bool
says_nothing [] = true
says_nothing ([] ∷ fields) = false
says_nothing ((c ∷ cs) ∷ fields) = c == 35

-- Numbers.

-- no plain decimal, or below the least
abbrev pub is_bad : ℕ → Number → Bool
is_bad least NotPlain = true
is_bad least Above = false
is_bad least (Of n) = nat_lt n least

abbrev pub is_over : Number → Bool
is_over NotPlain = false
is_over Above = true
is_over (Of n) = false

abbrev pub number_in : Number → ℕ
number_in NotPlain = 0
number_in Above = 0
number_in (Of n) = n

-- Names, and pairs of a name with its part.

-- the number of the cell, or of the position, with this name: its place among the names
abbrev pub cell_named : List (List ℕ) → List ℕ → Option ℕ
cell_named names name = position (bytes_eq name) names

-- pairs alone
abbrev pub are_even : List (List ℕ) → Bool
are_even fields = length fields % 2 == 0

-- one pair or more
abbrev pub are_pairs : List (List ℕ) → Bool
are_pairs fields = nat_le 2 (length fields) && are_even fields

-- the entries of `NAME PART NAME PART ..`
unfoldable pub entries_in : List (List ℕ) → List (List ℕ) → List CellPart
entries_in names [] = []
entries_in names (name ∷ []) = []
entries_in names (name ∷ part ∷ fields) = record { cell = unwrap_or (cell_named names name) 0; part = number_in (number_at 1000000 part) } ∷ entries_in names fields
