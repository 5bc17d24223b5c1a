-- What one more look finds of what a reference misses, by the masses of the cells that it covers.
use Rattle.std.proofs.Common.{ℕ, ◌*◌, ◌-◌, ◌<◌, ◌≤◌, ◌≡◌, List, length, ap, ◌∙◌, arith, nat_lt, filter, sum_by}
use Rattle.std.specs.List.{range_with_len}
use Rattle.std.proofs.lemmas.Nat.{mul-le}
use Rattle.sweep_table.specs.LookParts.{factor_of}
use Rattle.search_model.specs.Problem.{Problem, IsProblem}
use Rattle.search_model.specs.Legal.{IsPath}
use Rattle.search_model.specs.Tracks.{whole_weight}
use Rattle.search_model.specs.Bounds.{gain_of}
use Rattle.list_laws.proofs.Sums.{sum_by-range-part}
use Rattle.search_model.proofs.Totals.{nothing_is_cut_off}
use Rattle.backward_mass.proofs.Meeting.{missed_in_each_period, gain_by_cell}
use Rattle.tangent_bound.specs.Gains.{missed_in, missed_by_look}
use Rattle.tangent_bound.proofs.Covered.{sum_covered, sum_covered-le}
use Rattle.tangent_bound.proofs.Sizes.{most_of}

module _ (p : Problem) (sound : IsProblem p) (x : List ℕ) (path : IsPath p x) (t : ℕ) (some : 1 ≤ t) (last : t ≤ p.horizon) where
  long : t ≤ length x
  long = omega (arith, path.whole, last)

  -- what is missed in all cells is within the whole weight
  missed-le : sum_by (missed_in p x t) (range_with_len 0 p.cells) ≤ whole_weight p
  missed-le = omega (arith, missed_in_each_period p x t some long last, nothing_is_cut_off p x sound)

  -- so is a cell's part of it
  pub missed_in-le : (c : ℕ) → c < p.cells → missed_in p x t c ≤ whole_weight p
  missed_in-le c here = omega (arith, sum_by-range-part p.cells (missed_in p x t) c here, missed-le)

  module _ (a : ℕ) where
    -- the cells where a look finds something are those of its row
    by_cells : sum_by (missed_in p x t) (filter (λ c. nat_lt (factor_of p.sweep t a c) p.sweep.denominator) (range_with_len 0 p.cells)) ≡ missed_by_look p x t a
    by_cells = sum_covered p.sweep sound.sweep p.cells sound.sweep_cells t a (missed_in p x t)

    -- what a look covers is within the whole weight, too
    pub missed_by_look-le : missed_by_look p x t a ≤ whole_weight p
    missed_by_look-le = omega (arith, by_cells, sum_covered-le p.sweep sound.sweep p.cells sound.sweep_cells t a (missed_in p x t), missed-le)

    -- a gain, by the cells that the look covers
    pub gain_is : (rate : ℕ) → gain_of p rate x t a ≡ (p.sweep.denominator - rate) * missed_by_look p x t a
    gain_is rate = gain_by_cell p rate x t a some long last ∙ ap (λ (s : ℕ). (p.sweep.denominator - rate) * s) by_cells

    -- no gain is above the most
    pub gain-le : (rate : ℕ) → gain_of p rate x t a ≤ most_of p
    gain-le rate = rw (gain_is rate) (mul-le (p.sweep.denominator - rate) (missed_by_look p x t a) p.sweep.denominator (whole_weight p) (omega arith) missed_by_look-le)
