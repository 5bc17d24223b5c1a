-- Text as lines.
use Rattle.std.specs.Prelude.{ℕ, zero, suc, ◌≡◌, ◌==◌, if◌then◌else◌, List, [], ◌∷◌, ◌++◌, All}
use Rattle.std.specs.List.{onto_first, slice_split, flat_map}

-- no byte is this one
abbrev pub HasNo : ℕ → List ℕ → Type 0
HasNo at text = All (λ c. c ≡ at → ⊥) text

-- bytes without a line feed, and lines with one each
abbrev pub HasNoFeed : List ℕ → Type 0
HasNoFeed line = HasNo 10 line

abbrev pub lines_text : List (List ℕ) → List ℕ
lines_text lines = flat_map (λ line. line ++ 10 ∷ []) lines

-- the pieces between two bytes of a kind, which may be empty
unfoldable pub split_at : ℕ → List ℕ → List (List ℕ)
split_at at text = slice_split (λ c. c == at) text

-- the pieces between two line feeds
abbrev pub pieces_of : List ℕ → List (List ℕ)
pieces_of text = split_at 10 text

-- the lines: those pieces, but for a last one that is empty
unfoldable pub lines_of : List ℕ → List (List ℕ)
lines_of [] = []
lines_of (c ∷ cs) = if c == 10 then [] ∷ lines_of cs else onto_first c (lines_of cs)

-- what follows the first n line feeds
unfoldable pub after_lines : ℕ → List ℕ → List ℕ
after_lines zero text = text
after_lines (suc n) [] = []
after_lines (suc n) (c ∷ cs) = if c == 10 then after_lines n cs else after_lines (suc n) cs
