-- What a look and a step of the drift make of masses.
use Rattle.std.proofs.Common.{ℕ, suc, ◌+◌, ◌*◌, ◌-◌, ◌≡◌, List, [], ◌∷◌, ◌++◌, Option, Some, None, length, refl, sym, ap, ◌∙◌, arith, sum_by, add-one, length-append}
use Rattle.std.specs.List.{range_with_len}
use Rattle.drift_chain.specs.DriftRows.{part_of}
use Rattle.sweep_table.specs.LookParts.{factor_of}
use Rattle.search_model.specs.Problem.{Problem, first_of}
use Rattle.search_model.specs.Tracks.{tracks, steps_product, weight_of}
use Rattle.list_laws.proofs.Sums.{sum_by-same, sum_by-times, sum_by-exchange}
use Rattle.search_model.proofs.TrackSums.{sum_tracks-suc, sum_tracks-same}
use Rattle.belief_update.specs.Masses.{looked_along, mass_of}
use Rattle.belief_update.proofs.TrackSteps.{weight_of-push, looked_along-none, looked_along-some}

-- a mass, where n periods have gone by
pub mass_of-at : (p : Problem) (looks : List (Option ℕ)) (c n : ℕ) → length looks ≡ n + 1 → mass_of p looks c ≡ sum_by (λ x. weight_of p (x ++ c ∷ []) * looked_along p 1 looks (x ++ c ∷ [])) (tracks p.cells n)
unfolding mass_of
mass_of-at p looks c n e = let less : length looks - 1 ≡ n = omega arith in rw less refl

-- a look multiplies each mass by its factor
pub mass_of-look : (p : Problem) (looks : List (Option ℕ)) (a c : ℕ) → mass_of p (looks ++ Some a ∷ []) c ≡ mass_of p (looks ++ None ∷ []) c * factor_of p.sweep (length looks + 1) a c
mass_of-look p looks a c =
    let factor = factor_of p.sweep (length looks + 1) a c in
    let e : 1 + length looks ≡ length looks + 1 = omega arith in
    mass_of-at p (looks ++ Some a ∷ []) c (length looks) (length-append looks (Some a ∷ []))
    ∙ sum_tracks-same p.cells (length looks) _ _ (λ x same. rw (looked_along-some p 1 looks a x c same, looked_along-none p 1 looks x c same, e) (omega arith))
    ∙ sum_by-times (λ x. weight_of p (x ++ c ∷ []) * looked_along p 1 (looks ++ None ∷ []) (x ++ c ∷ [])) factor (tracks p.cells (length looks))
    ∙ ap (λ (m : ℕ). m * factor) (sym (mass_of-at p (looks ++ None ∷ []) c (length looks) (length-append looks (None ∷ []))))

-- a step of the drift sums the parts that each mass sends on
pub mass_of-drift : (p : Problem) (looks : List (Option ℕ)) (look : Option ℕ) (d : ℕ) →
    mass_of p (looks ++ look ∷ [] ++ None ∷ []) d ≡ sum_by (λ c. mass_of p (looks ++ look ∷ []) c * part_of p.drift (length looks + 1) c d) (range_with_len 0 p.cells)
mass_of-drift p looks look d =
    let n = length looks in
    let all = range_with_len 0 p.cells in
    let made = looks ++ look ∷ [] in
    let before : List ℕ → ℕ = λ x. weight_of p x * looked_along p 1 made x in
    let long : length made ≡ suc n = length-append looks (look ∷ []) ∙ add-one n in
    mass_of-at p (made ++ None ∷ []) d (suc n) (rw (length-append made (None ∷ []), long) refl)
    ∙ sum_tracks-same p.cells (suc n) _ (λ y. weight_of p (y ++ d ∷ []) * looked_along p 1 made y) (λ y same. rw (looked_along-none p 1 made y d (same ∙ sym long)) refl)
    ∙ sum_tracks-suc (λ y. weight_of p (y ++ d ∷ []) * looked_along p 1 made y) p.cells n
    ∙ sum_tracks-same p.cells n _ (λ x. sum_by (λ c. before (x ++ c ∷ []) * part_of p.drift (n + 1) c d) all)
    (λ x same. sum_by-same _ _ all (λ c. rw (weight_of-push p x c d, same) (omega arith)))
    ∙ sum_by-exchange (λ x c. before (x ++ c ∷ []) * part_of p.drift (n + 1) c d) (tracks p.cells n) all
    ∙ sum_by-same _ _ all (λ c.
    sum_by-times (λ x. before (x ++ c ∷ [])) (part_of p.drift (n + 1) c d) (tracks p.cells n)
    ∙ ap (λ (m : ℕ). m * part_of p.drift (n + 1) c d) (sym (mass_of-at p made c n (length-append looks (look ∷ [])))))

-- the masses at the start are the first parts
pub mass_of-start : (p : Problem) (c : ℕ) → mass_of p (None ∷ []) c ≡ first_of p c
unfolding mass_of tracks weight_of steps_product looked_along
mass_of-start p c = omega arith
