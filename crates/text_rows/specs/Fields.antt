-- A line as fields.
use Rattle.std.specs.Prelude.{ℕ, Bool, true, not, ◌||◌, ◌==◌, nat_lt, if◌then◌else◌, List, [], ◌∷◌}
use Rattle.std.specs.List.{onto_first}
use Rattle.std.specs.Str.{bytes_eq}
use Rattle.text_rows.specs.Lines.{split_at}

-- a field is a word
abbrev pub is_word : List ℕ → List ℕ → Bool
is_word field word = bytes_eq field word

-- the fields behind the first, and the first alone
abbrev pub behind_first : List (List ℕ) → List (List ℕ)
behind_first [] = []
behind_first (f ∷ fs) = fs

abbrev pub first_alone : List (List ℕ) → List (List ℕ)
first_alone [] = []
first_alone (f ∷ fs) = f ∷ []

-- tab, carriage return and 0x20 to 0x7E
abbrev pub is_text_byte : ℕ → Bool
is_text_byte c = (c == 9 || c == 13) || not (nat_lt c 32 || nat_lt 126 c)

-- a byte of a field: one of text that is no blank
abbrev pub is_field_byte : ℕ → Bool
is_field_byte c = not (nat_lt c 33 || nat_lt 126 c)

-- what stands between single blanks, which may be empty
abbrev pub exact_fields : List ℕ → List (List ℕ)
exact_fields line = split_at 32 line

-- blank, tab, carriage return
abbrev pub is_blank : ℕ → Bool
is_blank c = c == 32 || (c == 9 || c == 13)

-- a field ends before this text
abbrev pub ends_field : List ℕ → Bool
ends_field [] = true
ends_field (c ∷ cs) = is_blank c

-- what stands between blanks, however many follow one another
unfoldable pub fields_of : List ℕ → List (List ℕ)
fields_of [] = []
fields_of (c ∷ cs) =
    if is_blank c then fields_of cs else
    (if ends_field cs then (c ∷ []) ∷ fields_of cs else onto_first c (fields_of cs))
