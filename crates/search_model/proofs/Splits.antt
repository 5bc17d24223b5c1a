-- A track split at a cell: its weight, and what the looks of a prefix miss of it.
use Rattle.std.proofs.Common.{ℕ, zero, suc, ◌+◌, ◌*◌, ◌<◌, ◌≤◌, ◌≡◌, List, [], ◌∷◌, ◌++◌, length, slice_index, drop, take, refl, arith, add-zero}
use Rattle.sweep_table.specs.LookParts.{factor_of}
use Rattle.search_model.specs.Problem.{Problem}
use Rattle.search_model.specs.Tracks.{steps_product, weight_of, miss_from}
use Rattle.search_model.specs.Bounds.{factors_along}

steps_product-split : (p : Problem) (t a : ℕ) (x : List ℕ) (c : ℕ) (z : List ℕ) → steps_product p t a (x ++ c ∷ [] ++ z) ≡ steps_product p t a (x ++ c ∷ []) * steps_product p (t + length x + 1) c z
unfolding steps_product
steps_product-split p t a [] c z = let e : t + 0 + 1 ≡ t + 1 = omega arith in rw e (omega arith)
steps_product-split p t a (b ∷ x) c z =
    let e : t + 1 + length x + 1 ≡ t + suc (length x) + 1 = omega arith in
    rw (steps_product-split p (t + 1) b x c z, e) (omega arith)

-- the weight of a track, by its front that ends in c and what follows
pub weight_of-split : (p : Problem) (x : List ℕ) (c : ℕ) (z : List ℕ) → weight_of p (x ++ c ∷ [] ++ z) ≡ weight_of p (x ++ c ∷ []) * steps_product p (length x + 1) c z
unfolding weight_of steps_product
weight_of-split p [] c z = omega arith
weight_of-split p (a ∷ x) c z =
    let e : 1 + length x + 1 ≡ suc (length x) + 1 = omega arith in
    rw (steps_product-split p 1 a x c z, e) (omega arith)

-- the miss of a track, by a front that the looks reach past and what follows
pub miss_from-split : (p : Problem) (t : ℕ) (q x z : List ℕ) → length x ≤ length q →
    miss_from p t q (x ++ z) ≡ factors_along p t (take (length x) q) x * miss_from p (t + length x) (drop (length x) q) z
unfolding miss_from factors_along
miss_from-split p t q [] z h = rw (add-zero t) (omega arith)
miss_from-split p t [] (b ∷ x) z h = absurd (omega arith)
miss_from-split p t (a ∷ q) (b ∷ x) z h =
    let e : t + 1 + length x ≡ t + suc (length x) = omega arith in
    rw (miss_from-split p (t + 1) q x z (omega arith), e) (omega arith)

-- the last look of a prefix, apart from those before it
pub factors_along-last : (p : Problem) (n t : ℕ) (q x : List ℕ) (c : ℕ) → n < length q → length x ≡ n →
    factors_along p t (take (suc n) q) (x ++ c ∷ []) ≡ factors_along p t (take n q) (x ++ c ∷ []) * factor_of p.sweep (t + n) (slice_index q n) c
unfolding factors_along
factors_along-last p n t [] x c long same = absurd (omega arith)
factors_along-last p zero t (a ∷ q) [] c long same = rw (add-zero t) (omega arith)
factors_along-last p zero t (a ∷ q) (b ∷ x) c long same = absurd (omega arith)
factors_along-last p (suc n) t (a ∷ q) [] c long same = absurd (omega arith)
factors_along-last p (suc n) t (a ∷ q) (b ∷ x) c long same =
    let e : t + 1 + n ≡ t + suc n = omega arith in
    rw (factors_along-last p n (t + 1) q x c (omega arith) (omega arith), e) (omega arith)

-- the cell of a track right behind a front
pub cell_behind : (n : ℕ) (x : List ℕ) (c : ℕ) (z : List ℕ) → length x ≡ n → slice_index (x ++ c ∷ [] ++ z) n ≡ c
cell_behind zero [] c z same = refl
cell_behind (suc n) [] c z same = absurd (omega arith)
cell_behind zero (a ∷ x) c z same = absurd (omega arith)
cell_behind (suc n) (a ∷ x) c z same = cell_behind n x c z (omega arith)
