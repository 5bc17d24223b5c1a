-- The lines of a text that have their line feed.
use Rattle.std.specs.Prelude.{ℕ, ◌-◌, List, length, take}
use Rattle.text_rows.specs.Lines.{pieces_of}

-- the pieces between two line feeds, but for the last one
unfoldable pub whole_lines : List ℕ → List (List ℕ)
whole_lines text = take (length (pieces_of text) - 1) (pieces_of text)
