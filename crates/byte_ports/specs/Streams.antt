-- A standard stream, as contracts see it: how often it refused.
use Rattle.std.specs.Prelude.{◌≡◌, ℕ, Result, MatchResult}
use Rattle.byte_ports.specs.Causes.{counted}

-- A refusal raises the count by one, up to its last value, and no other answer moves it.
abbrev pub CountsEach : {E : Type 0} → ℕ → Result ℕ E → ℕ → Type 0
CountsEach old result new = MatchResult result (λ _. new ≡ old) (λ _. new ≡ counted old)
