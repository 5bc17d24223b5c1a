-- The one rate of a problem's look factors, found among them.
use Rattle.std.specs.Prelude.{ℕ, Bool, ◌&&◌, ◌||◌, ◌==◌, nat_le, List, map, Option}
use Rattle.std.specs.List.{find, list_all, flat_map, range_with_len}
use Rattle.sweep_table.specs.LookParts.{factor_of}
use Rattle.search_model.specs.Problem.{Problem}

-- the factors of a problem's looks, over all periods, positions and cells
abbrev pub factors_of : Problem → List ℕ
factors_of p =
    flat_map (λ t. flat_map (λ a. map (factor_of p.sweep t a) (range_with_len 0 p.cells)) (range_with_len 0 p.positions)) (range_with_len 1 p.horizon)

-- whether each of some factors is the rate or the denominator g, and none is less than the rate
abbrev pub is_rate_of : ℕ → List ℕ → ℕ → Bool
is_rate_of g factors rate = list_all (λ f. (f == rate || f == g) && nat_le rate f) factors

-- the first of the factors that is the rate of all of them, if one is
unfoldable pub one_rate_of : Problem → Option ℕ
one_rate_of p = find (is_rate_of p.sweep.denominator (factors_of p)) (factors_of p)
