-- How wide the sums of a scenario grow.
use Rattle.std.specs.Prelude.{ℕ, ◌+◌, ◌-◌, ◌*◌, ◌^◌, ◌<◌}

-- first chances in parts of a, drift rows in parts of d and looks in parts of g, over t periods, leave room for every sum
abbrev pub Fits : ℕ → ℕ → ℕ → ℕ → Type 0
Fits a d g t = (t + 10) * a * d ^ (t - 1) * g ^ (t + 1) < 2 ^ 127
