-- Lists with a row of numbers for each period, and the greatest rewards of some periods.
use Rattle.std.specs.Prelude.{ℕ, ◌+◌, ◌-◌, ◌*◌, List, map, slice_index, sum_by}
use Rattle.std.specs.List.{range_with_len}
use Rattle.search_model.specs.Bounds.{greatest}

-- the number of period t at place q, in a list with one row of so many places for each period
abbrev pub entry_at : ℕ → List ℕ → ℕ → ℕ → ℕ
entry_at places numbers t q = slice_index numbers ((t - 1) * places + q)

-- the greatest reward of a period
abbrev pub highest : ℕ → (ℕ → ℕ → ℕ) → ℕ → ℕ
highest positions r t = greatest (map (r t) (range_with_len 0 positions))

-- the sum of the greatest rewards of n periods, the first of them t
abbrev pub highest_sum : ℕ → (ℕ → ℕ → ℕ) → ℕ → ℕ → ℕ
highest_sum positions r n t = sum_by (highest positions r) (range_with_len t n)
