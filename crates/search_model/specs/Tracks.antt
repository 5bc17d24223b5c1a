-- The target's tracks, their weights, and what the looks along a prefix find of them (Stewart 1979, Eagle 1984).
use Rattle.std.specs.Prelude.{ℕ, zero, suc, ◌+◌, ◌*◌, ◌-◌, ◌^◌, List, [], ◌∷◌, ◌++◌, map, sum_by}
use Rattle.std.specs.List.{flat_map, range_with_len}
use Rattle.drift_chain.specs.DriftRows.{part_of}
use Rattle.sweep_table.specs.LookParts.{factor_of}
use Rattle.search_model.specs.Problem.{Problem, first_of}

-- all lists of n cells
unfoldable pub tracks : ℕ → ℕ → List (List ℕ)
tracks cells zero = [] ∷ []
tracks cells (suc n) = flat_map (λ x. map (λ c. x ++ c ∷ []) (range_with_len 0 cells)) (tracks cells n)

-- the product of the drift parts along a track that stands in cell c in period t
unfoldable pub steps_product : Problem → ℕ → ℕ → List ℕ → ℕ
steps_product p t c [] = 1
steps_product p t c (d ∷ x) = part_of p.drift t c d * steps_product p (t + 1) d x

-- the weight of a track: the first part of its first cell, times its drift parts
unfoldable pub weight_of : Problem → List ℕ → ℕ
weight_of p [] = 1
weight_of p (c ∷ x) = first_of p c * steps_product p 1 c x

-- the product of the look factors of a prefix along a track, from period t on; a period without a look counts
-- the denominator
unfoldable pub miss_from : Problem → ℕ → List ℕ → List ℕ → ℕ
miss_from p t q [] = 1
miss_from p t [] (c ∷ x) = p.sweep.denominator * miss_from p (t + 1) [] x
miss_from p t (a ∷ q) (c ∷ x) = factor_of p.sweep t a c * miss_from p (t + 1) q x

-- the miss of a track under a prefix
abbrev pub miss_of : Problem → List ℕ → List ℕ → ℕ
miss_of p q x = miss_from p 1 q x

-- the whole weight, of which a value is a part
abbrev pub whole_weight : Problem → ℕ
whole_weight p = p.total * p.drift.denominator ^ (p.horizon - 1) * p.sweep.denominator ^ p.horizon

-- the weight that the looks of a prefix miss: over all tracks, weight times miss
unfoldable pub missed_weight : Problem → List ℕ → ℕ
missed_weight p q = sum_by (λ x. weight_of p x * miss_of p q x) (tracks p.cells p.horizon)

-- the value of a prefix: the weight that its looks find
abbrev pub value_of : Problem → List ℕ → ℕ
value_of p q = whole_weight p - missed_weight p q
