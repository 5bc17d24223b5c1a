-- Tracks that are longer by one, and the looks along them.
use Rattle.std.proofs.Common.{ℕ, zero, suc, ◌+◌, ◌*◌, ◌≡◌, ◌≤◌, List, [], ◌∷◌, ◌++◌, Option, Some, None, length, replicate, refl, arith, add-zero}
use Rattle.drift_chain.specs.DriftRows.{part_of}
use Rattle.sweep_table.specs.LookParts.{factor_of}
use Rattle.search_model.specs.Problem.{Problem}
use Rattle.search_model.specs.Tracks.{steps_product, weight_of}
use Rattle.belief_update.specs.Masses.{looked_along}

-- one more step at the end of a track
steps_product-push : (p : Problem) (t a : ℕ) (x : List ℕ) (c d : ℕ) → steps_product p t a (x ++ c ∷ [] ++ d ∷ []) ≡ steps_product p t a (x ++ c ∷ []) * part_of p.drift (t + length x + 1) c d
unfolding steps_product
steps_product-push p t a [] c d = let e : t + 0 + 1 ≡ t + 1 = omega arith in rw e (omega arith)
steps_product-push p t a (b ∷ x) c d =
    let e : t + 1 + length x + 1 ≡ t + suc (length x) + 1 = omega arith in
    rw (steps_product-push p (t + 1) b x c d, e) (omega arith)

-- the weight of a track with one more cell
pub weight_of-push : (p : Problem) (x : List ℕ) (c d : ℕ) → weight_of p (x ++ c ∷ [] ++ d ∷ []) ≡ weight_of p (x ++ c ∷ []) * part_of p.drift (length x + 1) c d
unfolding weight_of steps_product
weight_of-push p [] c d = omega arith
weight_of-push p (a ∷ x) c d =
    let e : 1 + length x + 1 ≡ suc (length x) + 1 = omega arith in
    rw (steps_product-push p 1 a x c d, e) (omega arith)

-- the looks along a track with a last period without a look
pub looked_along-none : (p : Problem) (t : ℕ) (looks : List (Option ℕ)) (x : List ℕ) (c : ℕ) → length x ≡ length looks → looked_along p t (looks ++ None ∷ []) (x ++ c ∷ []) ≡ looked_along p t looks x
unfolding looked_along
looked_along-none p t [] [] c e = refl
looked_along-none p t [] (b ∷ x) c e = absurd (omega arith)
looked_along-none p t (look ∷ looks) [] c e = absurd (omega arith)
looked_along-none p t (None ∷ looks) (b ∷ x) c e = looked_along-none p (t + 1) looks x c (omega arith)
looked_along-none p t (Some a ∷ looks) (b ∷ x) c e = rw (looked_along-none p (t + 1) looks x c (omega arith)) refl

-- the looks along a track with a look in the last period
pub looked_along-some : (p : Problem) (t : ℕ) (looks : List (Option ℕ)) (a : ℕ) (x : List ℕ) (c : ℕ) → length x ≡ length looks → looked_along p t (looks ++ Some a ∷ []) (x ++ c ∷ []) ≡ looked_along p t looks x * factor_of p.sweep (t + length looks) a c
unfolding looked_along
looked_along-some p t [] a [] c e = rw (add-zero t) (omega arith)
looked_along-some p t [] a (b ∷ x) c e = absurd (omega arith)
looked_along-some p t (look ∷ looks) a [] c e = absurd (omega arith)
looked_along-some p t (None ∷ looks) a (b ∷ x) c e =
    let later : t + 1 + length looks ≡ t + suc (length looks) = omega arith in
    rw (looked_along-some p (t + 1) looks a x c (omega arith), later) refl
looked_along-some p t (Some q ∷ looks) a (b ∷ x) c e =
    let later : t + 1 + length looks ≡ t + suc (length looks) = omega arith in
    rw (looked_along-some p (t + 1) looks a x c (omega arith), later) (omega arith)

-- later cells don't change the factors of the looks made
pub looked_along-longer : (p : Problem) (t : ℕ) (looks : List (Option ℕ)) (x : List ℕ) (c : ℕ) → length looks ≤ length x → looked_along p t looks (x ++ c ∷ []) ≡ looked_along p t looks x
unfolding looked_along
looked_along-longer p t [] x c h = refl
looked_along-longer p t (look ∷ looks) [] c h = absurd (omega arith)
looked_along-longer p t (None ∷ looks) (b ∷ x) c h = looked_along-longer p (t + 1) looks x c (omega arith)
looked_along-longer p t (Some a ∷ looks) (b ∷ x) c h = rw (looked_along-longer p (t + 1) looks x c (omega arith)) refl

-- periods without a look have no factor
looked_along-nones_alone : (p : Problem) (t n : ℕ) (x : List ℕ) → looked_along p t (replicate n None) x ≡ 1
unfolding looked_along
looked_along-nones_alone p t zero x = refl
looked_along-nones_alone p t (suc n) [] = refl
looked_along-nones_alone p t (suc n) (c ∷ x) = looked_along-nones_alone p (t + 1) n x

pub looked_along-nones : (p : Problem) (t n : ℕ) (looks : List (Option ℕ)) (x : List ℕ) → looked_along p t (looks ++ replicate n None) x ≡ looked_along p t looks x
unfolding looked_along
looked_along-nones p t n [] x = looked_along-nones_alone p t n x
looked_along-nones p t n (look ∷ looks) [] = refl
looked_along-nones p t n (None ∷ looks) (c ∷ x) = looked_along-nones p (t + 1) n looks x
looked_along-nones p t n (Some a ∷ looks) (c ∷ x) = rw (looked_along-nones p (t + 1) n looks x) refl
