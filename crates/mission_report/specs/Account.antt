-- What the looks along a path find up to each period, and what they leave of the target in each cell.
use Rattle.std.specs.Prelude.{ℕ, ◌*◌, ◌==◌, List, map, take, filter, sum_by}
use Rattle.std.specs.List.{range_with_len}
use Rattle.search_model.specs.Problem.{Problem}
use Rattle.search_model.specs.Bounds.{cell_in}
use Rattle.search_model.specs.Tracks.{tracks, weight_of, miss_of, value_of}

-- the periods, from the first to the horizon
abbrev pub all_periods : Problem → List ℕ
all_periods p = range_with_len 1 p.horizon

-- the cells in order
abbrev pub all_cells : Problem → List ℕ
all_cells p = range_with_len 0 p.cells

-- the value of a path up to period t
abbrev pub value_up_to : Problem → List ℕ → ℕ → ℕ
value_up_to p q t = value_of p (take t q)

-- the mass of cell c in period t, as far as the looks up to then missed it: over the tracks that stand there then, weight
-- times miss
unfoldable pub mass_in : Problem → List ℕ → ℕ → ℕ → ℕ
mass_in p q t c = sum_by (λ x. weight_of p x * miss_of p (take t q) x) (filter (λ x. cell_in x t == c) (tracks p.cells p.horizon))

-- the mass that a path leaves in cell c: its mass in the last period
abbrev pub mass_left : Problem → List ℕ → ℕ → ℕ
mass_left p q c = mass_in p q p.horizon c

-- the values up to each period
abbrev pub values_along : Problem → List ℕ → List ℕ
values_along p q = map (value_up_to p q) (all_periods p)

-- the masses of the cells in period t
abbrev pub masses_in : Problem → List ℕ → ℕ → List ℕ
masses_in p q t = map (mass_in p q t) (all_cells p)

-- the masses that a path leaves in the cells
abbrev pub masses_left : Problem → List ℕ → List ℕ
masses_left p q = masses_in p q p.horizon
