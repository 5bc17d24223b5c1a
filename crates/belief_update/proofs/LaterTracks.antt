-- Sums over the tracks of later periods.
use Rattle.std.proofs.Common.{ℕ, zero, suc, ◌+◌, ◌*◌, ◌^◌, ◌≤◌, ◌≡◌, List, [], ◌∷◌, ◌++◌, length, sym, ap, ◌∙◌, arith, sum_by, add-zero, length-append}
use Rattle.std.specs.List.{range_with_len}
use Rattle.std.proofs.Math.Nat.{pow-zero, pow-suc}
use Rattle.drift_chain.specs.DriftRows.{part_of}
use Rattle.search_model.specs.Problem.{Problem, IsProblem}
use Rattle.search_model.specs.Tracks.{tracks, weight_of}
use Rattle.list_laws.proofs.Sums.{sum_by-same, sum_by-times, sum_by-range-same}
use Rattle.search_model.proofs.DriftSums.{steps_total}
use Rattle.search_model.proofs.TrackSums.{sum_tracks-suc, sum_tracks-same}
use Rattle.belief_update.proofs.TrackSteps.{weight_of-push}

module _ (p : Problem) (sound : IsProblem p) (h : List ℕ → ℕ) (k m : ℕ) (more : (x : List ℕ) (c : ℕ) → m ≤ length x → h (x ++ c ∷ []) ≡ h x * k) where
  -- over tracks that are longer by one, of a factor that a further cell multiplies by k
  pub sum_tracks-longer : (n : ℕ) → m ≤ suc n →
      sum_by (λ x. weight_of p x * h x) (tracks p.cells (suc (suc n))) ≡ sum_by (λ x. weight_of p x * h x) (tracks p.cells (suc n)) * (p.drift.denominator * k)
  sum_tracks-longer n le =
      let all = range_with_len 0 p.cells in
      let dk = p.drift.denominator * k in
      let f : List ℕ → ℕ = λ x. weight_of p x * h x in
      sum_tracks-suc f p.cells (suc n)
      ∙ sum_tracks-suc (λ x. sum_by (λ d. f (x ++ d ∷ [])) all) p.cells n
      ∙ sum_tracks-same p.cells n _ (λ y. sum_by (λ c. f (y ++ c ∷ [])) all * dk) (λ y same.
      sum_by-range-same p.cells _ (λ c. f (y ++ c ∷ []) * dk) (λ c lt.
      let long : m ≤ length (y ++ c ∷ []) = omega (arith, length-append y (c ∷ []), same) in
      sum_by-same _ (λ d. part_of p.drift (n + 1) c d * (f (y ++ c ∷ []) * k)) all (λ d.
      rw (weight_of-push p y c d, more (y ++ c ∷ []) d long, same) (omega arith))
      ∙ sum_by-times (part_of p.drift (n + 1) c) (f (y ++ c ∷ []) * k) all
      ∙ rw (steps_total p sound (n + 1) c lt) (omega arith))
      ∙ sum_by-times (λ c. f (y ++ c ∷ [])) dk all)
      ∙ sum_by-times (λ y. sum_by (λ c. f (y ++ c ∷ [])) all) dk (tracks p.cells n)
      ∙ ap (λ (s : ℕ). s * dk) (sym (sum_tracks-suc f p.cells n))

  -- the same over j further periods
  pub sum_tracks-longer_by : (n j : ℕ) → m ≤ suc n →
      sum_by (λ x. weight_of p x * h x) (tracks p.cells (suc n + j)) ≡ sum_by (λ x. weight_of p x * h x) (tracks p.cells (suc n)) * (p.drift.denominator * k) ^ j
  sum_tracks-longer_by n zero le = rw (add-zero (suc n), pow-zero (p.drift.denominator * k)) (omega arith)
  sum_tracks-longer_by n (suc j) le =
      let e : suc n + suc j ≡ suc (suc (n + j)) = omega arith in
      let e' : suc (n + j) ≡ suc n + j = omega arith in
      rw e (sum_tracks-longer (n + j) (omega arith)
      ∙ rw (e', sum_tracks-longer_by n j le, pow-suc (p.drift.denominator * k) j) (omega arith))
