-- What a problem's looks miss, where it stands for a team.
use Rattle.std.proofs.Common.{ℕ, ◌+◌, ◌^◌, ◌<◌, ◌≤◌, ◌≡◌, ◌∙◌, List, [], ◌∷◌, map, length, refl, arith, sum_by, All, Contains}
use Rattle.std.proofs.Math.Nat.{le-max_right, pow-zero, pow-suc}
use Rattle.std.proofs.lemmas.List.Elements.{All-head, All-tail, All-weaker, All-contains_itself}
use Rattle.drift_chain.specs.DriftRows.{row_of}
use Rattle.sweep_table.specs.LookParts.{factor_of}
use Rattle.search_model.specs.Problem.{Problem, IsProblem}
use Rattle.search_model.specs.Legal.{IsPath}
use Rattle.search_model.specs.Tracks.{tracks, steps_product, weight_of, miss_from, miss_of, whole_weight, missed_weight, value_of}
use Rattle.search_model.proofs.PlainSteps.{positions_follow}
use Rattle.search_model.proofs.TrackMembers.{IsTrack, track_is}
use Rattle.list_laws.proofs.Mapped.{map-map}
use Rattle.list_laws.proofs.Sums.{sum_by-same, sum_by-same_all}
use Rattle.searcher_maps.specs.Target.{HasSameTarget}
use Rattle.searcher_maps.specs.Stands.{product, missed_together, StandsFor}
use Rattle.searcher_maps.specs.Laws.{MissedByTeam, OneFindsTheSame}
use Rattle.searcher_maps.proofs.Products.{product_times, product_same, product_ones}

module _ (p q : Problem) (same : HasSameTarget p q) where
  steps_same : (x : List ℕ) (t c : ℕ) → 1 ≤ t → t + length x ≤ p.horizon → c < p.cells → All (λ d. d < p.cells) x → steps_product q t c x ≡ steps_product p t c x
  unfolding steps_product
  steps_same [] t c from to here within = refl
  steps_same (d ∷ x) t c from to here within =
      let row : row_of q.drift t c ≡ row_of p.drift t c = same.rows t c from (omega (arith, to, le-max_right 2 p.horizon)) here in
      let rest = steps_same x (t + 1) d (omega arith) (omega (arith, to)) (All-head (λ d. d < p.cells) d x within) (All-tail (λ d. d < p.cells) d x within) in
      rw (row, rest) refl

  -- a track weighs the same
  pub weight_same : (x : List ℕ) → IsTrack p.cells p.horizon x → weight_of q x ≡ weight_of p x
  unfolding weight_of
  weight_same [] is = refl
  weight_same (c ∷ x) is =
      let steps = steps_same x 1 c (omega arith) (omega (arith, is.size)) (All-head (λ d. d < p.cells) c x is.within) (All-tail (λ d. d < p.cells) c x is.within) in
      rw (steps, same.first) refl

  -- sums over all tracks of terms that are the same on them
  pub tracks_same : (f g : List ℕ → ℕ) → ((x : List ℕ) → IsTrack p.cells p.horizon x → f x ≡ g x) → sum_by f (tracks q.cells q.horizon) ≡ sum_by g (tracks p.cells p.horizon)
  tracks_same f g each =
      let all = tracks p.cells p.horizon in
      rw (same.cells, same.horizon) (sum_by-same_all f g all (All-weaker (Contains all) (λ x. f x ≡ g x) (λ x listed. each x (track_is p.cells p.horizon x listed)) all (All-contains_itself all)))

module _ (p q : Problem) (at : List (ℕ → ℕ)) (stands : StandsFor p q at) where
  -- what looks miss along a track is the product of what those of the team miss
  pub misses_of_team : (z x : List ℕ) (t : ℕ) → 1 ≤ t → t + length x ≤ p.horizon + 1 → All (λ a. a < q.positions) z → All (λ c. c < p.cells) x →
      miss_from q t z x ≡ product (map (λ h. miss_from p t (map h z) x) at)
  unfolding miss_from
  misses_of_team z [] t from to places within = rw (product_ones at) refl
  misses_of_team [] (c ∷ x) t from to places within =
      let rest = misses_of_team [] x (t + 1) (omega arith) (omega (arith, to)) places (All-tail (λ c. c < p.cells) c x within) in
      let here : q.sweep.denominator ≡ product (map (λ h. p.sweep.denominator) at) = rw (product_same p.sweep.denominator at) stands.parts in
      rw (here, rest) (product_times (λ h. p.sweep.denominator) (λ h. miss_from p (t + 1) [] x) at)
  misses_of_team (a ∷ z) (c ∷ x) t from to places within =
      let rest = misses_of_team z x (t + 1) (omega arith) (omega (arith, to)) (All-tail (λ a. a < q.positions) a z places) (All-tail (λ c. c < p.cells) c x within) in
      let here = stands.looks t a c from (omega (arith, to)) (All-head (λ a. a < q.positions) a z places) (All-head (λ c. c < p.cells) c x within) in
      rw (here, rest) (product_times (λ h. factor_of p.sweep t (h a) c) (λ h. miss_from p (t + 1) (map h z) x) at)

  -- and so what the looks from positions miss is what those of the team miss together
  pub missed_of_team : (z : List ℕ) → All (λ a. a < q.positions) z → missed_weight q z ≡ missed_together p (map (λ h. map h z) at)
  unfolding missed_weight missed_together
  missed_of_team z places =
      tracks_same p q stands.target _ _ (λ x is.
      let weight = weight_same p q stands.target x is in
      let miss = misses_of_team z x 1 (omega arith) (omega (arith, is.size)) places is.within in
      let twice = map-map (λ y. miss_of p y x) (λ h. map h z) at in
      rw (weight, miss, twice) refl)

-- a path holds positions
pub path_within : (p : Problem) → IsProblem p → (z : List ℕ) → IsPath p z → All (λ a. a < p.positions) z
path_within p sound z path = positions_follow p sound p.start (omega (arith, sound.start, sound.grid_positions)) z path.follows

pub missed_by_team : MissedByTeam
missed_by_team p q at sound other stands z path = missed_of_team p q at stands z (path_within q other z path)

-- what one path misses together
pub missed_alone : (p : Problem) (y : List ℕ) → missed_together p (y ∷ []) ≡ missed_weight p y
unfolding missed_weight missed_together
missed_alone p y = sum_by-same _ _ (tracks p.cells p.horizon) (λ x. omega arith)

power_of_one : (n : ℕ) → n ^ 1 ≡ n
power_of_one n = rw (pow-suc n 0, pow-zero n) (omega arith)

module _ (p q : Problem) (h : ℕ → ℕ) (stands : StandsFor p q (h ∷ [])) where
  pub whole_of_one : whole_weight q ≡ whole_weight p
  whole_of_one =
      let target = stands.target in
      let parts : q.sweep.denominator ≡ p.sweep.denominator = stands.parts ∙ power_of_one p.sweep.denominator in
      rw (target.total, target.drift_denominator, target.horizon, parts) refl

  pub value_of_one : (z : List ℕ) → All (λ a. a < q.positions) z → value_of q z ≡ value_of p (map h z)
  value_of_one z places = rw (whole_of_one, missed_of_team p q (h ∷ []) stands z places, missed_alone p (map h z)) refl

pub one_finds_the_same : OneFindsTheSame
one_finds_the_same p q h sound other stands z path = (value_of_one p q h stands z (path_within q other z path), whole_of_one p q h stands)
