-- The text of rows of fields.
use Rattle.std.specs.Prelude.{ℕ, List, [], ◌∷◌, ◌++◌}
use Rattle.std.specs.List.{join_with_byte, flat_map}

-- each row its fields with one blank between, and a line feed
abbrev pub text_of : List (List (List ℕ)) → List ℕ
text_of [] = []
text_of (row ∷ rows) = join_with_byte 32 row ++ 10 ∷ text_of rows

-- each field with a blank before it
abbrev pub spaced : List (List ℕ) → List ℕ
spaced fields = flat_map (λ field. 32 ∷ field) fields
