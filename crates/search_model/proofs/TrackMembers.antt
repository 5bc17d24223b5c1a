-- Which lists are tracks, and sums over tracks of larger terms.
use Rattle.std.proofs.Common.{ℕ, zero, suc, ◌<◌, ◌≤◌, ◌≡◌, List, [], ◌∷◌, ◌++◌, map, length, inl, inr, refl, subst, arith, sum_by, All, Contains, length-append}
use Rattle.std.specs.List.{range_with_len}
use Rattle.std.proofs.lemmas.List.Elements.{All-nil, All-cons, All-append, All-weaker, All-contains_itself}
use Rattle.search_model.specs.Tracks.{tracks}
use Rattle.list_laws.proofs.Members.{Contains-nil, Contains-cons_cases, Contains-map_cases, Contains-flat_map_cases}
use Rattle.list_laws.proofs.Ranges.{within_range}
use Rattle.list_laws.proofs.Sums.{sum_by-within, sum_by-same_all}

-- a list of n cells
pub record IsTrack (cells n : ℕ) (x : List ℕ) : Type 0 where
  pub size : length x ≡ n
  pub within : All (λ c. c < cells) x

-- a track with one cell more is one
pub track-push : (cells n : ℕ) (x : List ℕ) (c : ℕ) → IsTrack cells n x → c < cells → IsTrack cells (suc n) (x ++ c ∷ [])
track-push cells n x c is here = record {
  size = omega (arith, length-append x (c ∷ []), is.size);
  within = All-append (λ c. c < cells) x (c ∷ []) is.within (All-cons (λ c. c < cells) c [] here (All-nil (λ c. c < cells)));
}

-- each listed track is one
pub track_is : (cells n : ℕ) (x : List ℕ) → Contains (tracks cells n) x → IsTrack cells n x
unfolding tracks
track_is cells zero x h = elim (Contains-cons_cases [] x [] h) [
  | inl e ↦ subst (IsTrack cells 0) e (record { size = refl; within = All-nil (λ c. c < cells) })
  | inr k ↦ absurd (Contains-nil x k)
]
track_is cells (suc n) x h =
    let step = Contains-flat_map_cases (λ x. map (λ c. x ++ c ∷ []) (range_with_len 0 cells)) (tracks cells n) x h in
    let last = Contains-map_cases (λ c. step.0 ++ c ∷ []) (range_with_len 0 cells) x step.2 in
    let known = track_is cells n step.0 step.1 in
    subst (IsTrack cells (suc n)) last.2 (track-push cells n step.0 last.0 known (within_range cells last.0 last.1))

-- a sum over tracks of larger terms is larger
pub sum_tracks-le : (cells n : ℕ) (f g : List ℕ → ℕ) → ((x : List ℕ) → IsTrack cells n x → f x ≤ g x) → sum_by f (tracks cells n) ≤ sum_by g (tracks cells n)
sum_tracks-le cells n f g h = sum_by-within f g (tracks cells n) (λ x k. h x (track_is cells n x k))

-- and a sum of terms that are the same on them is the same
pub sum_tracks-same : (cells n : ℕ) (f g : List ℕ → ℕ) → ((x : List ℕ) → IsTrack cells n x → f x ≡ g x) → sum_by f (tracks cells n) ≡ sum_by g (tracks cells n)
sum_tracks-same cells n f g h =
    let all = tracks cells n in
    sum_by-same_all f g all (All-weaker (Contains all) (λ x. f x ≡ g x) (λ x k. h x (track_is cells n x k)) all (All-contains_itself all))
