-- Exchanges: what a prefix may find beyond another that ends where it does. The reward of a look is that of the mean bound
-- (Martins 1993), for any masses; for those behind the prefix it is the mean bound's own.
use Rattle.std.specs.Prelude.{ℕ, zero, suc, ◌+◌, ◌*◌, ◌-◌, ◌^◌, List, map, length, drop, sum_by}
use Rattle.std.specs.List.{range_with_len}
use Rattle.drift_chain.specs.DriftRows.{part_of}
use Rattle.sweep_table.specs.LookParts.{factor_of}
use Rattle.search_model.specs.Problem.{Problem}
use Rattle.search_model.specs.Legal.{last_of, continuations}
use Rattle.search_model.specs.Tracks.{tracks, steps_product, value_of}
use Rattle.search_model.specs.Bounds.{sum_along, greatest}
use Rattle.search_model.specs.Following.{look_factor, after_of, forward_of}

-- what the looks of y, from period s on, miss of a unit in cell c in period s, with m periods to come
abbrev pub missed_unit : Problem → ℕ → List ℕ → ℕ → ℕ → ℕ
missed_unit p s y m c = look_factor p s y c * after_of p s c (drop 1 y) m

-- what a look from position a in period t finds of a unit that was in cell c in period s
unfoldable pub unit_reward : Problem → ℕ → ℕ → ℕ → ℕ → ℕ
unit_reward p s c t a = sum_by (λ z. steps_product p s c z * (p.sweep.denominator - factor_of p.sweep t a (last_of c z))) (tracks p.cells (t - s))

-- the reward of a look from position a in period t, for masses in period s before its look, after no other look
unfoldable pub reward_for : Problem → ℕ → (ℕ → ℕ) → ℕ → ℕ → ℕ
reward_for p s masses t a = sum_by (λ c. masses c * unit_reward p s c t a) (range_with_len 0 p.cells) * p.drift.denominator ^ (p.horizon - t) * p.sweep.denominator ^ (p.horizon - s)

-- what the drift makes of masses in period s in so many steps, with no look between
unfoldable pub drifted : Problem → ℕ → (ℕ → ℕ) → ℕ → ℕ → ℕ
drifted p s masses zero d = masses d
drifted p s masses (suc n) d = sum_by (λ c. drifted p s masses n c * part_of p.drift (s + n) c d) (range_with_len 0 p.cells)

-- the mass behind a prefix in cell c, in the period after it and before the look of that period
abbrev pub mass_behind : Problem → List ℕ → ℕ → ℕ
mass_behind p q c = forward_of p q (length q + 1) c

-- the lead of a prefix q over r in cell c: how much more mass there is behind q, and 0 where there is less
unfoldable pub lead_of : Problem → List ℕ → List ℕ → ℕ → ℕ
lead_of p q r c = mass_behind p q c - mass_behind p r c

-- the exchange bound: the value of the prefix, and the greatest sum of the rewards of its lead over its continuations
abbrev pub exchange_of : Problem → List ℕ → List ℕ → ℕ
exchange_of p q r = value_of p q + greatest (map (sum_along (reward_for p (length q + 1) (lead_of p q r)) (length q + 1)) (continuations p q))
