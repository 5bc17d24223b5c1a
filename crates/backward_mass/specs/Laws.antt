-- What forward and backward masses say together. Position q(t), from which a prefix q looks in period t, is
-- `slice_index q (t - 1)`.
use Rattle.std.specs.Prelude.{ℕ, ◌*◌, ◌-◌, ◌≤◌, ◌≡◌, List, length, take, filter, nat_lt, slice_index, sum_by}
use Rattle.std.specs.List.{range_with_len}
use Rattle.sweep_table.specs.LookParts.{factor_of}
use Rattle.search_model.specs.Problem.{Problem}
use Rattle.search_model.specs.Tracks.{tracks, weight_of, miss_of, missed_weight}
use Rattle.search_model.specs.Bounds.{cell_in, gain_of}
use Rattle.search_model.specs.Following.{forward_of}
use Rattle.backward_mass.specs.Masses.{backward_of}

-- what a prefix misses, each track counted by a number of its cell in period t, is the sum over the cells of forward
-- mass after the look of period t, number, and backward mass
abbrev pub MissedByCell : Type 0
MissedByCell = (p : Problem) (q : List ℕ) (h : ℕ → ℕ) (t : ℕ) → 1 ≤ t → t ≤ length q → t ≤ p.horizon →
    sum_by (λ x. weight_of p x * miss_of p q x * h (cell_in x t)) (tracks p.cells p.horizon)
    ≡ sum_by (λ c. forward_of p (take t q) t c * h c * backward_of p q t c) (range_with_len 0 p.cells)

-- the forward mass after the look of period t is that before it times the factor of the look
abbrev pub LookApart : Type 0
LookApart = (p : Problem) (q : List ℕ) (t c : ℕ) → 1 ≤ t → t ≤ length q →
    forward_of p (take t q) t c ≡ forward_of p (take (t - 1) q) t c * factor_of p.sweep t (slice_index q (t - 1)) c

-- the missed weight is the sum over the cells of forward mass times backward mass, in each period alike
abbrev pub MissedInEachPeriod : Type 0
MissedInEachPeriod = (p : Problem) (q : List ℕ) (t : ℕ) → 1 ≤ t → t ≤ length q → t ≤ p.horizon →
    missed_weight p q ≡ sum_by (λ c. forward_of p (take t q) t c * backward_of p q t c) (range_with_len 0 p.cells)

-- what one more look in period t finds of what a path misses, by the cells where the look finds something
abbrev pub GainByCell : Type 0
GainByCell = (p : Problem) (rate : ℕ) (q : List ℕ) (t a : ℕ) → 1 ≤ t → t ≤ length q → t ≤ p.horizon →
    gain_of p rate q t a
    ≡ (p.sweep.denominator - rate) * sum_by (λ c. forward_of p (take t q) t c * backward_of p q t c) (filter (λ c. nat_lt (factor_of p.sweep t a c) p.sweep.denominator) (range_with_len 0 p.cells))
