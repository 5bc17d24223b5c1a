-- Problems that are the same search have the same bounds that remember looks, of which the mean bound and the edge bound are two.
use Rattle.std.proofs.Common.{ℕ, ◌+◌, ◌*◌, ◌-◌, ◌^◌, ◌<◌, ◌≤◌, ◌≡◌, List, [], ◌∷◌, length, take, refl, sym, subst, ◌∙◌, arith, sum_by, All}
use Rattle.std.proofs.Math.Nat.{min-le_right}
use Rattle.std.proofs.lemmas.List.Elements.{All-nil, All-cons, All-head, All-tail, All-take}
use Rattle.std.proofs.lemmas.List.{length-take}
use Rattle.search_model.specs.Problem.{Problem, IsProblem}
use Rattle.search_model.specs.Same.{AreSame}
use Rattle.search_model.specs.Legal.{IsLegal}
use Rattle.sweep_table.specs.LookParts.{factor_of}
use Rattle.search_model.specs.Tracks.{tracks, weight_of}
use Rattle.search_model.specs.Bounds.{factors_along, cell_in, mean_of}
use Rattle.search_model.specs.Edge.{edge_of}
use Rattle.search_model.specs.Memory.{factors_before, reward_after, sum_remembering, remembering_of}
use Rattle.search_model.proofs.Remembering.{remembering_of-none, remembering_of-one}
use Rattle.search_model.proofs.SameSearch.{factors_same, weight_same, tracks_same_long, legal_within, value_same_legal, greatest_same}
use Rattle.search_model.proofs.TrackMembers.{IsTrack}

module _ (p o : Problem) (same : AreSame p o) where
  -- what looks just before a period miss along a track
  before_same : (x : List ℕ) → IsTrack p.cells p.horizon x → (t : ℕ) (recent : List ℕ) → length recent + 1 ≤ t → t ≤ p.horizon + 1 → All (λ a. a < p.positions) recent →
      factors_before p t recent x ≡ factors_before o t recent x
  unfolding factors_before
  before_same x is t [] from to places = refl
  before_same x is t (a ∷ recent) from to places =
      let here = same.factors (t - 1) a (cell_in x (t - 1)) (omega (arith, from)) (omega (arith, to)) (All-head (λ a. a < p.positions) a recent places)
      (is.within (t - 1 - 1) 0 (omega (arith, is.size, from, to))) in
      let rest = before_same x is (t - 1) recent (omega (arith, from)) (omega (arith, to)) (All-tail (λ a. a < p.positions) a recent places) in
      rw (here, rest) refl

  -- what a look finds after those
  after_same : (q recent : List ℕ) → All (λ a. a < p.positions) q → All (λ a. a < p.positions) recent → (t b : ℕ) → length recent + 1 ≤ t → t ≤ p.horizon → b < p.positions →
      reward_after p q recent t b ≡ reward_after o q recent t b
  unfolding reward_after
  after_same q recent places others t b from to next =
      let term : Problem → List ℕ → ℕ = λ z x.
      weight_of z x * factors_along z 1 q x * factors_before z t recent x * (z.sweep.denominator - factor_of z.sweep t b (cell_in x t)) * z.sweep.denominator ^ (z.horizon - length q - length recent - 1) in
      let sums : sum_by (term p) (tracks p.cells p.horizon) ≡ sum_by (term o) (tracks o.cells p.horizon) = tracks_same_long p o same p.horizon (term p) (term o) (λ x is.
      let weight = weight_same p o same p.horizon x (omega arith) is in
      let front = factors_same p o same q x 1 (omega arith) (omega (arith, is.size)) places is.within in
      let before = before_same x is t recent from (omega (arith, to)) others in
      let look = same.factors t b (cell_in x t) (omega (arith, from)) to next (is.within (t - 1) 0 (omega (arith, is.size, from, to))) in
      rw (weight, front, before, look, same.look_denominator, same.horizon) refl) in
      subst (λ h. sum_by (term p) (tracks p.cells p.horizon) ≡ sum_by (term o) (tracks o.cells h)) same.horizon sums

  -- and the sum along a continuation
  sum_same : (m : ℕ) (q : List ℕ) → All (λ a. a < p.positions) q → (recent : List ℕ) (t : ℕ) (y : List ℕ) → length recent + 1 ≤ t → t + length y ≤ p.horizon + 1 →
      All (λ a. a < p.positions) recent → All (λ a. a < p.positions) y → sum_remembering p m q recent t y ≡ sum_remembering o m q recent t y
  unfolding sum_remembering
  sum_same m q places recent t [] from short others within = refl
  sum_same m q places recent t (b ∷ y) from short others within =
      let next = All-head (λ a. a < p.positions) b y within in
      let few : length (take m recent) + 1 ≤ t = omega (arith, length-take m recent, min-le_right m (length recent), from) in
      let here = after_same q (take m recent) places (All-take (λ a. a < p.positions) m recent others) t b few (omega (arith, short)) next in
      let rest = sum_same m q places (b ∷ recent) (t + 1) y (omega (arith, from)) (omega (arith, short)) (All-cons (λ a. a < p.positions) b recent next others) (All-tail (λ a. a < p.positions) b y within) in
      rw (here, rest) refl

  -- so the bounds that remember as many looks are the same
  pub remembering_same : IsProblem p → (m : ℕ) (q : List ℕ) → IsLegal p q → remembering_of p m q ≡ remembering_of o m q
  remembering_same sound m q legal =
      let places = legal_within p o same sound q legal in
      let most = greatest_same p o same sound q legal (sum_remembering p m q [] (length q + 1)) (sum_remembering o m q [] (length q + 1))
      (λ y short within. sum_same m q places [] (length q + 1) y (omega arith) (omega (arith, short)) (All-nil (λ a. a < p.positions)) within) in
      cc (value_same_legal p o same sound q legal, most)

  pub mean_same : IsProblem p → (q : List ℕ) → IsLegal p q → mean_of p q ≡ mean_of o q
  mean_same sound q legal = sym (remembering_of-none p q) ∙ remembering_same sound 0 q legal ∙ remembering_of-none o q

  pub edge_same : IsProblem p → (q : List ℕ) → IsLegal p q → edge_of p q ≡ edge_of o q
  edge_same sound q legal = sym (remembering_of-one p q) ∙ remembering_same sound 1 q legal ∙ remembering_of-one o q
