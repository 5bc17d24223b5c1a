-- Rewards, by the masses that drifted on without looks.
use Rattle.std.proofs.Common.{ℕ, zero, suc, ◌+◌, ◌*◌, ◌-◌, ◌^◌, ◌≤◌, ◌≡◌, List, [], ◌∷◌, ◌++◌, Option, Some, map, length, refl, sym, ap, ◌∙◌, arith, sum_by}
use Rattle.std.specs.List.{range_with_len}
use Rattle.std.proofs.lemmas.List.{get_or_append_left}
use Rattle.std.proofs.Math.Seq.{get_or-append_seam}
use Rattle.sweep_table.specs.LookParts.{factor_of}
use Rattle.search_model.specs.Problem.{Problem, IsProblem}
use Rattle.search_model.specs.Tracks.{tracks, weight_of}
use Rattle.search_model.specs.Bounds.{factors_along, cell_in, reward_of}
use Rattle.list_laws.proofs.Sums.{sum_by-same, sum_by-times}
use Rattle.search_model.proofs.TrackSums.{sum_tracks-suc, sum_tracks-same}
use Rattle.belief_update.specs.Masses.{looked_along, mass_of, looks_to}
use Rattle.belief_update.specs.Laws.{RewardsByMasses}
use Rattle.belief_update.proofs.TrackSteps.{looked_along-nones, looked_along-longer}
use Rattle.belief_update.proofs.LaterTracks.{sum_tracks-longer_by}
use Rattle.belief_update.proofs.Looks.{length-looks_to}
use Rattle.belief_update.proofs.Missed.{sum_tracks-masses}

-- the factors of a prefix are those of its looks
pub factors_along-looked : (p : Problem) (t : ℕ) (q x : List ℕ) → factors_along p t q x ≡ looked_along p t (map Some q) x
unfolding factors_along looked_along
factors_along-looked p t [] x = refl
factors_along-looked p t (a ∷ q) [] = refl
factors_along-looked p t (a ∷ q) (c ∷ x) = rw (factors_along-looked p (t + 1) q x) refl

-- the cell of a track in a period, where the track is longer by one
cell_in-longer : (x : List ℕ) (c t : ℕ) → 1 ≤ t → t ≤ length x → cell_in (x ++ c ∷ []) t ≡ cell_in x t
cell_in-longer x c t some h = get_or_append_left x (c ∷ []) 0 (t - 1) (omega arith)

cell_in-last : (x : List ℕ) (c t : ℕ) → t ≡ length x + 1 → cell_in (x ++ c ∷ []) t ≡ c
cell_in-last x c t e = let last : t - 1 ≡ length x = omega (arith, e) in rw last (get_or-append_seam x c [] 0)

-- over all tracks, what a further factor of the cell in a period makes of looks up to that period
pub found_by_masses : (p : Problem) → IsProblem p → (looks : List (Option ℕ)) (h : ℕ → ℕ) (t : ℕ) → 1 ≤ t → length looks ≡ t → t ≤ p.horizon →
    sum_by (λ x. weight_of p x * (looked_along p 1 looks x * h (cell_in x t))) (tracks p.cells p.horizon)
    ≡ sum_by (λ c. mass_of p looks c * h c) (range_with_len 0 p.cells) * p.drift.denominator ^ (p.horizon - t)
found_by_masses p sound looks h zero some long last = absurd (omega arith)
found_by_masses p sound looks h (suc n) some long last =
    let all = range_with_len 0 p.cells in
    let t = suc n in
    let j = p.horizon - suc n in
    let f : List ℕ → ℕ = λ x. looked_along p 1 looks x * h (cell_in x t) in
    let size : length looks ≡ n + 1 = omega (arith, long) in
    let whole : suc n + j ≡ p.horizon = omega (arith, last) in
    let once : p.drift.denominator * 1 ≡ p.drift.denominator = omega arith in
    let more : (x : List ℕ) (c : ℕ) → suc n ≤ length x → f (x ++ c ∷ []) ≡ f x * 1 = λ x c le.
    rw (looked_along-longer p 1 looks x c (omega (arith, long, le)), cell_in-longer x c t (omega arith) le) (omega arith) in
    ap (λ (m : ℕ). sum_by (λ x. weight_of p x * f x) (tracks p.cells m)) (sym whole)
    ∙ sum_tracks-longer_by p sound f 1 (suc n) more n j (omega arith)
    ∙ ap (λ (s : ℕ). s * (p.drift.denominator * 1) ^ j)
    (sum_tracks-suc (λ x. weight_of p x * f x) p.cells n
    ∙ sum_tracks-same p.cells n _ (λ x. sum_by (λ c. weight_of p (x ++ c ∷ []) * looked_along p 1 looks (x ++ c ∷ []) * h c) all) (λ x same.
    sum_by-same _ _ all (λ c. rw (cell_in-last x c t (omega (arith, same))) (omega arith)))
    ∙ sum_tracks-masses p looks n size h)
    ∙ rw once refl

pub rewards_by_masses_hold : RewardsByMasses
unfolding reward_of
rewards_by_masses_hold p sound q t a short last =
    let all = range_with_len 0 p.cells in
    let rest = p.sweep.denominator ^ (p.horizon - length q - 1) in
    let found : ℕ → ℕ = λ c. p.sweep.denominator - factor_of p.sweep t a c in
    let looks = looks_to t q in
    let drifts = p.drift.denominator ^ (p.horizon - t) in
    sum_by-same _ (λ x. weight_of p x * (looked_along p 1 looks x * (found (cell_in x t) * rest))) (tracks p.cells p.horizon)
    (λ x. rw (factors_along-looked p 1 q x, looked_along-nones p 1 (t - length q) (map Some q) x) (omega arith))
    ∙ found_by_masses p sound looks (λ c. found c * rest) t (omega (arith, short)) (length-looks_to t q (omega (arith, short))) last
    ∙ ap (λ (s : ℕ). s * drifts) (sum_by-same _ (λ c. mass_of p looks c * found c * rest) all (λ c. omega arith) ∙ sum_by-times (λ c. mass_of p looks c * found c) rest all)
    ∙ omega arith
