-- Masses: the weight of the target in each cell in a period, as far as the looks so far missed it (Eagle 1984).
use Rattle.std.specs.Prelude.{ℕ, ◌≡◌, ◌<◌, ◌+◌, ◌*◌, ◌-◌, List, [], ◌∷◌, ◌++◌, Option, Some, None, map, length, replicate, slice_index, sum_by}
use Rattle.std.specs.List.{range_with_len}
use Rattle.sweep_table.specs.LookParts.{factor_of}
use Rattle.search_model.specs.Problem.{Problem}
use Rattle.search_model.specs.Tracks.{tracks, weight_of}

-- the product of the factors of looks along a track, from period t on; a period without a look has no factor
unfoldable pub looked_along : Problem → ℕ → List (Option ℕ) → List ℕ → ℕ
looked_along p t [] x = 1
looked_along p t (look ∷ looks) [] = 1
looked_along p t (None ∷ looks) (c ∷ x) = looked_along p (t + 1) looks x
looked_along p t (Some a ∷ looks) (c ∷ x) = factor_of p.sweep t a c * looked_along p (t + 1) looks x

-- the mass of cell c after looks, one option for each period so far: over the lists of as many cells that end in c,
-- weight times factors
unfoldable pub mass_of : Problem → List (Option ℕ) → ℕ → ℕ
mass_of p looks c = sum_by (λ x. weight_of p (x ++ c ∷ []) * looked_along p 1 looks (x ++ c ∷ [])) (tracks p.cells (length looks - 1))

-- the masses of all cells
abbrev pub masses_of : Problem → List (Option ℕ) → List ℕ
masses_of p looks = map (mass_of p looks) (range_with_len 0 p.cells)

-- the looks of a prefix, and none after them up to period t
abbrev pub looks_to : ℕ → List ℕ → List (Option ℕ)
looks_to t q = map Some q ++ replicate (t - length q) None

-- the masses of all cells behind a prefix, in the period after it and before the look of that period
abbrev pub AreBehind : Problem → List ℕ → List ℕ → Type 0
AreBehind p q masses = (c : ℕ) → c < p.cells → slice_index masses c ≡ mass_of p (looks_to (length q + 1) q) c
