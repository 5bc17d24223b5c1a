-- Bounds of longer prefixes: the tangents at one path, and what a standing doesn't cut.
use Rattle.std.proofs.Common.{ℕ, suc, ◌+◌, ◌*◌, ◌-◌, ◌<◌, ◌≤◌, ◌≡◌, List, [], ◌∷◌, ◌++◌, map, length, inl, inr, refl, sym, ap, ◌∙◌, subst, arith, append_assoc, length-append, ltb-true, lt-ltb, eqb-true, eq-eqb}
use Rattle.std.proofs.Math.Seq.{drop-append_seam}
use Rattle.std.proofs.lemmas.Bool.{or_cases, or_left, or_right, and_from, and_parts, true≢false, false_from_ne_true, cases_order}
use Rattle.std.proofs.lemmas.List.{length-map, take_at}
use Rattle.list_laws.proofs.Members.{Contains-map_cases}
use Rattle.search_model.specs.Problem.{Problem, IsProblem}
use Rattle.search_model.specs.Legal.{IsPath, last_of, continuations}
use Rattle.search_model.specs.Tracks.{value_of}
use Rattle.search_model.specs.Bounds.{sum_along, greatest, gain_of}
use Rattle.search_model.proofs.Greatest.{greatest_reached}
use Rattle.search_model.proofs.LegalLemmas.{last_within}
use Rattle.search_model.proofs.WalkLemmas.{continuations_are, some_walks}
use Rattle.bound_tree.specs.Accepts.{Extends}
use Rattle.bound_tree.specs.BoundLaws.{TangentGrows}
use Rattle.bound_tree.specs.Cut.{is_cut}
use Rattle.bound_tree.specs.CutLaws.{UncutAbove}
use Rattle.bound_tree.proofs.Continuing.{rest_of, whole_is, front_legal, rest_below}

-- a sum along two lists, one after the other
sum_along-append : (r : ℕ → ℕ → ℕ) (t : ℕ) (m z : List ℕ) → sum_along r t (m ++ z) ≡ sum_along r t m + sum_along r (t + length m) z
unfolding sum_along
sum_along-append r t [] z = let same : t + 0 ≡ t = omega arith in rw same (omega arith)
sum_along-append r t (a ∷ m) z =
    let later : t + 1 + length m ≡ t + suc (length m) = omega arith in
    let rest = rw later at (sum_along-append r (t + 1) m z) in
    omega (arith, rest)

module _ (p : Problem) (sound : IsProblem p) (q m x : List ℕ) (path : Extends p (q ++ m) x) (r : ℕ → ℕ → ℕ) where
  -- the periods after the two prefixes
  periods : length q + 1 + length m ≡ length (q ++ m) + 1
  periods = omega (arith, length-append q m)

  -- what follows the shorter prefix is what is between the two, and then what follows the longer one
  parts : (w : List ℕ) → rest_of q (q ++ m ++ w) ≡ m ++ w
  parts w = ap (rest_of q) (append_assoc q m w) ∙ drop-append_seam q (m ++ w)

  -- so each sum after the shorter prefix is one more by what is between
  sums : (w : List ℕ) → sum_along r (length q + 1) (rest_of q (q ++ m ++ w)) ≡ sum_along r (length q + 1) m + sum_along r (length (q ++ m) + 1) w
  sums w = ap (sum_along r (length q + 1)) (parts w) ∙ sum_along-append r (length q + 1) m w ∙ ap (λ (t : ℕ). sum_along r (length q + 1) m + sum_along r t w) periods

  -- also the sum of the path itself
  pub own_sum : sum_along r (length q + 1) (rest_of q x) ≡ sum_along r (length q + 1) m + sum_along r (length (q ++ m) + 1) (rest_of (q ++ m) x)
  own_sum = ap (λ (y : List ℕ). sum_along r (length q + 1) (rest_of q y)) (whole_is p (q ++ m) x path) ∙ sums (rest_of (q ++ m) x)

  -- a path that begins with the longer prefix begins with the shorter one
  shorter : (w : List ℕ) → IsPath p (q ++ m ++ w) → Extends p q (q ++ m ++ w)
  shorter w whole = record { path = whole; front = rw (append_assoc q m w) (take_at q (m ++ w) (length q) refl) }

  -- the greatest sum after the shorter prefix is no less than that after the longer one and what is between
  pub greatest_grows : sum_along r (length q + 1) m + greatest (map (sum_along r (length (q ++ m) + 1)) (continuations p (q ++ m)))
      ≤ greatest (map (sum_along r (length q + 1)) (continuations p q))
  greatest_grows =
      let legal = front_legal p (q ++ m) x path in
      let here = last_within p.moves sound.grid p.start (omega (arith, sound.start, sound.grid_positions)) (q ++ m) legal.follows in
      let some : 0 < length (map (sum_along r (length (q ++ m) + 1)) (continuations p (q ++ m))) =
      rw length-map (some_walks p.moves sound.grid (p.horizon - length (q ++ m)) (last_of p.start (q ++ m)) here) in
      let (w, listed, is) = Contains-map_cases (sum_along r (length (q ++ m) + 1)) (continuations p (q ++ m)) _ (greatest_reached _ some) in
      let below = rest_below p q (q ++ m ++ w) (shorter w ((continuations_are p (q ++ m) w legal).0 listed)) r (length q + 1) in
      omega (arith, below, sums w, is)

less_between : (v mid most own top all : ℕ) → mid + most ≤ top → all ≡ mid + own → v + most - own ≤ v + top - all
less_between v mid most own top all up is = omega (arith, up, is)

pub tangent_grows : TangentGrows
tangent_grows p rate q r x sound (m, is) path =
    let gains : ℕ → ℕ → ℕ = gain_of p rate x in
    let on : Extends p (q ++ m) x = subst (λ (u : List ℕ). Extends p u x) is path in
    rw is
    (less_between (p.sweep.denominator * value_of p x) (sum_along gains (length q + 1) m) _ _ _ _
    (greatest_grows p sound q m x on gains) (own_sum p sound q m x on gains))

pub uncut_above : UncutAbove
uncut_above b c q s le free = false_from_ne_true (is_cut c q s) (λ cut. true≢false (sym (elim (or_cases _ _ cut) [
  | inl less ↦ or_left _ _ (lt-ltb b s.value (let low = ltb-true c s.value less in omega (arith, low, le)))
  | inr level ↦
      let both = and_parts _ _ level in
      let same = eqb-true c s.value both.0 in
      elim (cases_order b c) [
        | inl e ↦ or_right _ _ (and_from _ _ (eq-eqb b s.value (e ∙ same)) both.1)
        | inr apart ↦ or_left _ _ (lt-ltb b s.value (omega (arith, same, apart, le)))
      ]
]) ∙ free))
