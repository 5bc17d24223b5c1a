-- The generator of numbers: this project's own, a linear congruential generator of 64 bits.
use Rattle.std.specs.Prelude.{ℕ, zero, suc, ◌+◌, ◌*◌, ◌/◌, ◌%◌, ◌^◌, List, [], ◌∷◌}

-- the state after a step
unfoldable pub next : ℕ → ℕ
next x = (x * 6364136223846793005 + 1442695040888963407) % 2 ^ 64

-- the state after so many steps
unfoldable pub state_after : ℕ → ℕ → ℕ
state_after zero x = x
state_after (suc k) x = state_after k (next x)

-- a draw below m: a step, and then the state without its lowest 33 bits, modulo m
unfoldable pub draw_below : ℕ → ℕ → ℕ
draw_below m x = next x / 2 ^ 33 % m

-- a draw below each of these bounds, one after the other
unfoldable pub draws_below : List ℕ → ℕ → List ℕ
draws_below [] x = []
draws_below (m ∷ bounds) x = draw_below m x ∷ draws_below bounds (next x)
