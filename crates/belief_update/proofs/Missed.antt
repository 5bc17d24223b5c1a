-- What a prefix misses, by the masses after it.
use Rattle.std.proofs.Common.{ℕ, zero, suc, ◌+◌, ◌*◌, ◌-◌, ◌^◌, ◌≤◌, ◌≡◌, List, [], ◌∷◌, ◌++◌, Option, Some, map, length, refl, sym, ap, ◌∙◌, arith, sum, sum_by, length-append}
use Rattle.std.specs.List.{range_with_len}
use Rattle.std.proofs.lemmas.List.Sums.{sum-map}
use Rattle.std.proofs.Math.Nat.{pow-zero, pow-suc}
use Rattle.std.proofs.lemmas.Nat.{pow-add, mul-pow}
use Rattle.search_model.specs.Problem.{Problem}
use Rattle.search_model.specs.Tracks.{tracks, weight_of, miss_from, missed_weight}
use Rattle.list_laws.proofs.Sums.{sum_by-same, sum_by-times, sum_by-exchange}
use Rattle.search_model.proofs.TrackSums.{sum_tracks-suc, sum_tracks-same}
use Rattle.belief_update.specs.Masses.{looked_along, mass_of, masses_of, looks_to}
use Rattle.belief_update.specs.Laws.{MissedByMasses}
use Rattle.belief_update.proofs.Looks.{length-looks_to}
use Rattle.belief_update.proofs.TrackSteps.{looked_along-nones}
use Rattle.belief_update.proofs.MassSteps.{mass_of-at}
use Rattle.belief_update.proofs.LaterTracks.{sum_tracks-longer_by}

-- a track's further cell, past the prefix, counts as the denominator
miss_from-push : (p : Problem) (t : ℕ) (q x : List ℕ) (c : ℕ) → length q ≤ length x → miss_from p t q (x ++ c ∷ []) ≡ miss_from p t q x * p.sweep.denominator
unfolding miss_from
miss_from-push p t [] [] c h = omega arith
miss_from-push p t [] (b ∷ x) c h = rw (miss_from-push p (t + 1) [] x c (omega arith)) (omega arith)
miss_from-push p t (a ∷ q) [] c h = absurd (omega arith)
miss_from-push p t (a ∷ q) (b ∷ x) c h = rw (miss_from-push p (t + 1) q x c (omega arith)) (omega arith)

-- a miss is the factors of the looks, times the denominator for each period after them
pub miss_from-looked : (p : Problem) (t : ℕ) (q x : List ℕ) (j : ℕ) → length x ≡ length q + j → miss_from p t q x ≡ looked_along p t (map Some q) x * p.sweep.denominator ^ j
unfolding miss_from looked_along
miss_from-looked p t [] [] zero e = rw (pow-zero p.sweep.denominator) refl
miss_from-looked p t [] [] (suc j) e = absurd (omega arith)
miss_from-looked p t [] (c ∷ x) zero e = absurd (omega arith)
miss_from-looked p t [] (c ∷ x) (suc j) e =
    let rest : miss_from p (t + 1) [] x ≡ 1 * p.sweep.denominator ^ j = miss_from-looked p (t + 1) [] x j (omega arith) in
    rw (rest, pow-suc p.sweep.denominator j) (omega arith)
miss_from-looked p t (a ∷ q) [] j e = absurd (omega arith)
miss_from-looked p t (a ∷ q) (c ∷ x) j e = rw (miss_from-looked p (t + 1) q x j (omega arith)) (omega arith)

-- over the tracks of n + 1 cells the masses after looks that end there sum up weight times factors
pub sum_tracks-masses : (p : Problem) (looks : List (Option ℕ)) (n : ℕ) → length looks ≡ n + 1 → (g : ℕ → ℕ) →
    sum_by (λ x. sum_by (λ c. weight_of p (x ++ c ∷ []) * looked_along p 1 looks (x ++ c ∷ []) * g c) (range_with_len 0 p.cells)) (tracks p.cells n)
    ≡ sum_by (λ c. mass_of p looks c * g c) (range_with_len 0 p.cells)
sum_tracks-masses p looks n long g =
    let all = range_with_len 0 p.cells in
    let f : List ℕ → ℕ = λ x. weight_of p x * looked_along p 1 looks x in
    sum_by-exchange (λ x c. f (x ++ c ∷ []) * g c) (tracks p.cells n) all
    ∙ sum_by-same _ _ all (λ c.
    sum_by-times (λ x. f (x ++ c ∷ [])) (g c) (tracks p.cells n)
    ∙ ap (λ (m : ℕ). m * g c) (sym (mass_of-at p looks c n long)))

-- in period n + 1, from the last look on
missed_at : (p : Problem) (q : List ℕ) (n : ℕ) → length q ≤ suc n →
    sum_by (λ x. weight_of p x * miss_from p 1 q x) (tracks p.cells (suc n)) ≡ sum (masses_of p (looks_to (suc n) q)) * p.sweep.denominator ^ (suc n - length q)
missed_at p q n short =
    let all = range_with_len 0 p.cells in
    let j = suc n - length q in
    let looks = looks_to (suc n) q in
    let g = p.sweep.denominator ^ j in
    let long : length looks ≡ n + 1 = omega (arith, length-looks_to (suc n) q short) in
    sum_tracks-suc (λ x. weight_of p x * miss_from p 1 q x) p.cells n
    ∙ sum_tracks-same p.cells n _ (λ x. sum_by (λ c. weight_of p (x ++ c ∷ []) * looked_along p 1 looks (x ++ c ∷ []) * g) all) (λ x same.
    sum_by-same _ _ all (λ c.
    let whole : length (x ++ c ∷ []) ≡ length q + j = omega (arith, length-append x (c ∷ []), same, short) in
    rw (miss_from-looked p 1 q (x ++ c ∷ []) j whole, looked_along-nones p 1 j (map Some q) (x ++ c ∷ [])) (omega arith)))
    ∙ sum_tracks-masses p looks n long (λ _. g)
    ∙ sum_by-times (mass_of p looks) g all
    ∙ ap (λ (s : ℕ). s * g) (sym (sum-map (mass_of p looks) all))

-- and over all tracks
pub missed_by_masses_hold : MissedByMasses
unfolding missed_weight
missed_by_masses_hold p sound q zero some short last = absurd (omega arith)
missed_by_masses_hold p sound q (suc n) some short last =
    let d = p.drift.denominator in
    let g = p.sweep.denominator in
    let j = p.horizon - suc n in
    let i = suc n - length q in
    let whole : suc n + j ≡ p.horizon = omega (arith, last) in
    let looks : g ^ (p.horizon - length q) ≡ g ^ i * g ^ j = ap (λ (m : ℕ). g ^ m) (omega (arith, short, last)) ∙ pow-add g i j in
    ap (λ (m : ℕ). sum_by (λ x. weight_of p x * miss_from p 1 q x) (tracks p.cells m)) (sym whole)
    ∙ sum_tracks-longer_by p sound (miss_from p 1 q) g (length q) (λ x c le. miss_from-push p 1 q x c le) n j short
    ∙ rw (missed_at p q n short, mul-pow d g j, looks) (omega arith)
