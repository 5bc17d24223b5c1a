-- A text from its end on.
use Rattle.std.specs.Prelude.{◌≡◌, ◌⊎◌, ◌++◌, ◌∷◌, [], ℕ, List, IsTrue, IsFalse}
use Rattle.std.specs.List.{list_all}
use Rattle.text_rows.specs.Fields.{is_blank}

-- the last byte of a text, where it has one, is no blank
abbrev pub EndsInNoBlank : List ℕ → Type 0
EndsInNoBlank text = (start : List ℕ) (last : ℕ) → text ≡ start ++ last ∷ [] → IsFalse (is_blank last)

-- the text is a front of it, and then all the blanks that it ends with
pub record EndsInBlanks (text front : List ℕ) : Type 0 where
  pub blanks : List ℕ
  pub only : IsTrue (list_all is_blank blanks)
  pub whole : text ≡ front ++ blanks
  pub all : EndsInNoBlank front

-- the text is empty, or ends with a line feed
abbrev pub BeginsLine : List ℕ → Type 0
BeginsLine text = (text ≡ []) ⊎ ((front : List ℕ) × (text ≡ front ++ 10 ∷ []))
