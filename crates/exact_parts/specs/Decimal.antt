-- Plain decimals: `0`, or a digit 1 to 9 followed by digits.
use Rattle.std.specs.Prelude.{◌≡◌, ℕ, ◌<◌, ◌≤◌, Bool, true, false, ◌==◌, ◌&&◌, nat_lt, not, if◌then◌else◌, List, [], ◌∷◌, length}
use Rattle.std.specs.Char.{is_ascii_digit}
use Rattle.std.specs.List.{list_all}
use Rattle.std.specs.Str.Parse.{digits_value}
use Rattle.exact_parts.specs.declared.number.Number.{Number}
use Rattle.exact_parts.specs.declared.number.Number.TheVariants.{NotPlain, Above, Of}

-- whether a text is a plain decimal
unfoldable pub is_plain : List ℕ → Bool
is_plain [] = false
is_plain (d ∷ ds) = (if d == 48 then length ds == 0 else is_ascii_digit d) && list_all is_ascii_digit ds

-- what a field says in the place of a number up to a limit
abbrev pub Spells : ℕ → List ℕ → Number → Type 0
Spells most text NotPlain = is_plain text ≡ false
Spells most text Above = (is_plain text ≡ true) × (most < digits_value 10 text)
Spells most text (Of n) = (is_plain text ≡ true) × (n ≡ digits_value 10 text) × (n ≤ most)

-- the same, as a function
unfoldable pub number_at : ℕ → List ℕ → Number
number_at most text =
    if not (is_plain text) then NotPlain else (if nat_lt most (digits_value 10 text) then Above else Of (digits_value 10 text))
