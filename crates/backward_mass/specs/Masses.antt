-- The mass of a cell in a period, from what may follow it.
use Rattle.std.specs.Prelude.{ℕ, ◌-◌, List, drop}
use Rattle.search_model.specs.Problem.{Problem}
use Rattle.search_model.specs.Following.{after_of}

-- the backward mass: the sum over what may follow cell c in period t, under the looks of a path after period t
abbrev pub backward_of : Problem → List ℕ → ℕ → ℕ → ℕ
backward_of p q t c = after_of p t c (drop t q) (p.horizon - t)
