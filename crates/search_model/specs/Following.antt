-- What leads to a cell, with the looks so far, and what may follow it, with the looks that are left.
use Rattle.std.specs.Prelude.{ℕ, ◌+◌, ◌*◌, ◌-◌, List, [], ◌∷◌, ◌++◌, sum_by}
use Rattle.sweep_table.specs.LookParts.{factor_of}
use Rattle.search_model.specs.Problem.{Problem}
use Rattle.search_model.specs.Tracks.{tracks, steps_product, weight_of, miss_from}
use Rattle.search_model.specs.Bounds.{factors_along}

-- the factor of the first look of a prefix, in period t, at cell c; past the prefix the denominator
abbrev pub look_factor : Problem → ℕ → List ℕ → ℕ → ℕ
look_factor p t [] c = p.sweep.denominator
look_factor p t (a ∷ q) c = factor_of p.sweep t a c

-- the sum over what may follow cell c in period t, to m more periods: drift parts times look factors
unfoldable pub after_of : Problem → ℕ → ℕ → List ℕ → ℕ → ℕ
after_of p t c q m = sum_by (λ z. steps_product p t c z * miss_from p (t + 1) q z) (tracks p.cells m)

-- the forward mass: the sum over the lists of t cells that end in c, of weight times the factors of these looks
abbrev pub forward_of : Problem → List ℕ → ℕ → ℕ → ℕ
forward_of p looks t c = sum_by (λ x. weight_of p (x ++ c ∷ []) * factors_along p 1 looks (x ++ c ∷ [])) (tracks p.cells (t - 1))
