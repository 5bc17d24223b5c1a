-- What a draw tells.
use Rattle.std.specs.Prelude.{ℕ}
use Rattle.node_tickets.specs.declared.draw.Draw.{Draw}
use Rattle.node_tickets.specs.declared.draw.Draw.TheVariants.{Number, Full}

-- the number that was drawn
abbrev pub number_drawn : Draw → ℕ
number_drawn (Number n) = n
number_drawn (Full n) = n

-- a fact of a number below the limit, where one was drawn
abbrev pub IfNumber : Draw → (ℕ → Type 0) → Type 0
IfNumber (Number n) fact = fact n
IfNumber (Full n) fact = Unit {0}

-- a fact of a number that isn't below the limit, where one was drawn
abbrev pub IfFull : Draw → (ℕ → Type 0) → Type 0
IfFull (Number n) fact = Unit {0}
IfFull (Full n) fact = fact n
