-- The tangent bound: what looks at one rate miss is convex, track by track and so in their sum.
use Rattle.std.proofs.Common.{ℕ, suc, ◌+◌, ◌*◌, ◌-◌, ◌<◌, ◌≤◌, ◌≡◌, Bool, if◌then◌else◌, nat_lt, List, [], ◌∷◌, ◌++◌, length, take, drop, refl, sym, ap, ◌∙◌, arith, sum_by, All, append_assoc, length-append, mul-le-mul_left}
use Rattle.std.proofs.Math.Nat.{pow-zero}
use Rattle.std.proofs.lemmas.List.{take-append-drop, length-drop, length-take-le}
use Rattle.std.proofs.lemmas.List.Elements.{All-head, All-tail, All-drop}
use Rattle.sweep_table.specs.LookParts.{factor_of}
use Rattle.sweep_table.proofs.Factors.{factor_of-le}
use Rattle.search_model.specs.Problem.{Problem, IsProblem}
use Rattle.search_model.specs.Tracks.{tracks, weight_of, miss_from, miss_of, missed_weight, whole_weight}
use Rattle.search_model.specs.Bounds.{factors_along, cell_in, gain_of, sum_along, IsRate}
use Rattle.list_laws.proofs.Sums.{sum_by-same, sum_by-none, sum_by-plus, sum_by-times, sum_by-filter}
use Rattle.search_model.proofs.Totals.{nothing_is_cut_off}
use Rattle.bound_tree.specs.Accepts.{Extends}
use Rattle.bound_tree.specs.BoundLaws.{missed_by, TangentIsAbove}
use Rattle.search_model.proofs.TrackMembers.{IsTrack, sum_tracks-le}
use Rattle.bound_tree.proofs.Continuing.{rest_of, whole_is, front_short, rest_size, rest_within, rest_below}
use Rattle.search_model.proofs.Misses.{miss_of-append, cell_in-after}
use Rattle.bound_tree.proofs.Convex.{looks_are_convex, one_look}

-- how many of some looks cover a track, the first look being that of period t
abbrev covers_along : Problem → ℕ → List ℕ → List ℕ → ℕ
covers_along p t [] x = 0
covers_along p t (a ∷ z) x = (if nat_lt (factor_of p.sweep t a (cell_in x t)) p.sweep.denominator then 1 else 0) + covers_along p (t + 1) z x

-- the rate is within the denominator
rate_within : (p : Problem) (rate : ℕ) → IsProblem p → IsRate p rate → rate ≤ p.sweep.denominator
rate_within p rate sound is =
    let (t, a, c, first, last, from, to, here) = is.reached in
    omega (arith, factor_of-le p.sweep sound.sweep t a c, here)

-- what looks at one rate miss of a track u, x depends on how many cover it; the looks start in the period after u
looks_counted : (p : Problem) (rate : ℕ) → IsProblem p → IsRate p rate → (z x u : List ℕ) (t : ℕ) → length x ≡ length z → t ≡ length u + 1 → t + length z ≤ suc p.horizon →
    All (λ a. a < p.positions) z → All (λ c. c < p.cells) x →
    (covers_along p t z (u ++ x) ≤ length z) × (miss_from p t z x ≡ missed_by p.sweep.denominator rate (length z) (covers_along p t z (u ++ x)))
unfolding miss_from
looks_counted p rate sound is [] [] u t size begin end positions cells = (omega arith, rw (pow-zero rate, pow-zero p.sweep.denominator) refl)
looks_counted p rate sound is [] (c ∷ x) u t size begin end positions cells = absurd (omega (arith, size))
looks_counted p rate sound is (a ∷ z) [] u t size begin end positions cells = absurd (omega (arith, size))
looks_counted p rate sound is (a ∷ z) (c ∷ x) u t size begin end positions cells =
    let g = p.sweep.denominator in
    let f = factor_of p.sweep t a c in
    let here : cell_in (u ++ c ∷ x) t ≡ c = cell_in-after u c x t begin in
    let either = is.either t a c (omega (arith, begin)) (omega (arith, end)) (All-head (λ b. b < p.positions) a z positions) (All-head (λ d. d < p.cells) c x cells) in
    let rest = looks_counted p rate sound is z x (u ++ c ∷ []) (t + 1) (omega (arith, size)) (omega (arith, length-append u (c ∷ []), begin)) (omega (arith, end)) (All-tail (λ b. b < p.positions) a z positions) (All-tail (λ d. d < p.cells) c x cells) in
    let moved = rw (append_assoc u (c ∷ []) x) at rest in
    rw here (one_look g rate f (length z) (covers_along p (t + 1) z (u ++ c ∷ x)) (miss_from p (t + 1) z x) (rate_within p rate sound is) either moved.0 moved.1)

module _ (p : Problem) (rate : ℕ) (whole : List ℕ) where
  -- what one more look that covers a track finds of what the path misses of it
  abbrev gain_at : List ℕ → ℕ
  gain_at x = (p.sweep.denominator - rate) * (weight_of p x * miss_of p whole x)

  -- the sum of gains along a continuation, track by track
  sum_along-gains : (t : ℕ) (z : List ℕ) → sum_along (gain_of p rate whole) t z ≡ sum_by (λ x. covers_along p t z x * gain_at x) (tracks p.cells p.horizon)
  unfolding sum_along gain_of
  sum_along-gains t [] = sym (sum_by-same _ (λ _. 0) (tracks p.cells p.horizon) (λ x. omega arith) ∙ sum_by-none (tracks p.cells p.horizon))
  sum_along-gains t (a ∷ z) =
      let all = tracks p.cells p.horizon in
      let test : List ℕ → Bool = λ x. nat_lt (factor_of p.sweep t a (cell_in x t)) p.sweep.denominator in
      let lost : List ℕ → ℕ = λ x. weight_of p x * miss_of p whole x in
      let first : List ℕ → ℕ = λ x. lost x * (if test x then 1 else 0) in
      let later : List ℕ → ℕ = λ x. covers_along p (t + 1) z x * gain_at x in
      let d : ℕ = p.sweep.denominator - rate in
      let one = sum_by-filter test lost all in
      let times = sum_by-times first d all in
      let both = sum_by-plus (λ x. first x * d) later all in
      let same = sum_by-same (λ x. covers_along p t (a ∷ z) x * gain_at x) (λ x. first x * d + later x) all (λ x. omega arith) in
      rw (sum_along-gains (t + 1) z) (omega (arith, ap (λ (n : ℕ). d * n) one, times, both, same))

-- what a path that extends a prefix misses of a track, by how many of its later looks cover the track
by_count : (p : Problem) (rate : ℕ) → IsProblem p → IsRate p rate → (q y : List ℕ) → Extends p q y → (c : List ℕ) → IsTrack p.cells p.horizon c →
    (covers_along p (length q + 1) (rest_of q y) c ≤ p.horizon - length q)
    × (miss_of p y c ≡ factors_along p 1 q c * missed_by p.sweep.denominator rate (p.horizon - length q) (covers_along p (length q + 1) (rest_of q y) c))
by_count p rate sound is q y path c track =
    let z = rest_of q y in
    let short : length q ≤ p.horizon = front_short p q y path in
    let long : length q ≤ length c = omega (arith, short, track.size) in
    let left = rest_size p q y path in
    let size : length (drop (length q) c) ≡ length z = omega (arith, length-drop (length q) c, track.size, left) in
    let begin : length q + 1 ≡ length (take (length q) c) + 1 = omega (arith, length-take-le (length q) c long) in
    let first : 1 + length q ≡ length q + 1 = omega arith in
    let cells = All-drop (λ d. d < p.cells) (length q) c track.within in
    let counted = looks_counted p rate sound is z (drop (length q) c) (take (length q) c) (length q + 1) size begin (omega (arith, left, short)) (rest_within p q y path sound) cells in
    let known = rw (take-append-drop (length q) c, left) at counted in
    let all : miss_of p y c ≡ factors_along p 1 q c * miss_from p (length q + 1) z (drop (length q) c) =
    ap (λ (r : List ℕ). miss_of p r c) (whole_is p q y path) ∙ miss_of-append p q c long z ∙ rw first in
    (known.0, all ∙ ap (λ (n : ℕ). factors_along p 1 q c * n) known.1)

weighed : (g d w f m n i j : ℕ) → g * m + i * (d * m) ≤ g * n + j * (d * m) → w * (f * m) * g + i * (d * (w * (f * m))) ≤ w * (f * n) * g + j * (d * (w * (f * m)))
weighed g d w f m n i j h = omega (arith, mul-le-mul_left (w * f) h)

-- of one track, y misses at least what x misses, less what the looks of y would find beyond those of x at the gains of x
track_line : (p : Problem) (rate : ℕ) → IsProblem p → IsRate p rate → (q x y : List ℕ) → Extends p q x → Extends p q y → (c : List ℕ) → IsTrack p.cells p.horizon c →
    weight_of p c * miss_of p x c * p.sweep.denominator + covers_along p (length q + 1) (rest_of q x) c * gain_at p rate x c
    ≤ weight_of p c * miss_of p y c * p.sweep.denominator + covers_along p (length q + 1) (rest_of q y) c * gain_at p rate x c
track_line p rate sound is q x y from to c track =
    let g = p.sweep.denominator in
    let looks = p.horizon - length q in
    let i = covers_along p (length q + 1) (rest_of q x) c in
    let j = covers_along p (length q + 1) (rest_of q y) c in
    let left = by_count p rate sound is q x from c track in
    let right = by_count p rate sound is q y to c track in
    rw (left.1, right.1)
    (weighed g (g - rate) (weight_of p c) (factors_along p 1 q c) (missed_by g rate looks i) (missed_by g rate looks j) i j
    (looks_are_convex g rate looks j i (rate_within p rate sound is) right.0 left.0))

below_tangent : (g w m n r s most : ℕ) → m ≤ w → n ≤ w → m * g + r ≤ n * g + s → s ≤ most → g * (w - n) ≤ g * (w - m) + most - r
below_tangent g w m n r s most hm hn h top =
    let left : w - m + m ≡ w = omega arith in
    let right : w - n + n ≡ w = omega arith in
    let same : g * (w - m) + g * m ≡ g * (w - n) + g * n = omega (arith, ap (λ (v : ℕ). g * v) (left ∙ sym right)) in
    omega (arith, same, h, top)

pub tangent_is_above : TangentIsAbove
unfolding missed_weight
tangent_is_above p rate q x y sound is from to =
    let all = tracks p.cells p.horizon in
    let g = p.sweep.denominator in
    let t = length q + 1 in
    let lost : List ℕ → List ℕ → ℕ = λ r c. weight_of p c * miss_of p r c in
    let gains : List ℕ → List ℕ → ℕ = λ r c. covers_along p t (rest_of q r) c * gain_at p rate x c in
    let line = sum_tracks-le p.cells p.horizon (λ c. lost x c * g + gains x c) (λ c. lost y c * g + gains y c) (track_line p rate sound is q x y from to) in
    let left = sum_by-plus (λ c. lost x c * g) (gains x) all in
    let right = sum_by-plus (λ c. lost y c * g) (gains y) all in
    let sums : missed_weight p x * g + sum_along (gain_of p rate x) t (rest_of q x) ≤ missed_weight p y * g + sum_along (gain_of p rate x) t (rest_of q y) =
    omega (arith, line, left, right, sum_by-times (lost x) g all, sum_by-times (lost y) g all, sum_along-gains p rate x t (rest_of q x), sum_along-gains p rate x t (rest_of q y)) in
    below_tangent g (whole_weight p) (missed_weight p x) (missed_weight p y) (sum_along (gain_of p rate x) t (rest_of q x)) (sum_along (gain_of p rate x) t (rest_of q y)) _
    (nothing_is_cut_off p x sound) (nothing_is_cut_off p y sound) sums (rest_below p q y to (gain_of p rate x) t)
