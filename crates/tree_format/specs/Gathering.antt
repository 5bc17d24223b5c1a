-- A line as its bytes come: the first 40 bytes of each of its first 70 fields are kept.
use Rattle.std.specs.Prelude.{ℕ, ◌+◌, ◌==◌, ◌&&◌, nat_lt, if◌then◌else◌, List, [], ◌∷◌, ◌++◌}

-- the text that is kept, the blanks that came, of which 70 and more count as 70, and the bytes kept of the last field
pub record Gathered : Type 0 where
  pub text : List ℕ
  pub blanks : ℕ
  pub width : ℕ

-- no byte came
abbrev pub nothing_gathered : Gathered
nothing_gathered = record { text = []; blanks = 0; width = 0 }

-- a blank is kept where one of the first 70 fields begins behind it
abbrev pub with_blank : Gathered → Gathered
with_blank g =
    if nat_lt g.blanks 69
    then record { text = g.text ++ 32 ∷ []; blanks = g.blanks + 1; width = 0 }
    else record { text = g.text; blanks = 70; width = 0 }

-- another byte is kept where it is one of the first 40 of its field
abbrev pub with_other : ℕ → Gathered → Gathered
with_other c g = if nat_lt g.blanks 70 && nat_lt g.width 40 then record { text = g.text ++ c ∷ []; blanks = g.blanks; width = g.width + 1 } else g

-- a byte more
abbrev pub with_byte : ℕ → Gathered → Gathered
with_byte c g = if c == 32 then with_blank g else with_other c g

-- bytes more, one after the other
unfoldable pub gathered : Gathered → List ℕ → Gathered
gathered g [] = g
gathered g (c ∷ cs) = gathered (with_byte c g) cs
