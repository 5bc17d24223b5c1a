-- Problems that are the same search have the same prefixes, weights, values and bounds.
use Rattle.std.proofs.Common.{ℕ, ◌+◌, ◌*◌, ◌-◌, ◌<◌, ◌≤◌, ◌≡◌, ◌↔◌, ◌∙◌, Bool, if◌then◌else◌, List, [], ◌∷◌, ◌++◌, map, length, nat_lt, take, drop, refl, sym, ap, subst, arith, sum_by, All, Contains}
use Rattle.std.proofs.Math.Nat.{le-max_right}
use Rattle.std.proofs.lemmas.List.Elements.{All-head, All-tail, All-drop}
use Rattle.std.proofs.lemmas.List.{length-drop, length-take-le}
use Rattle.drift_chain.specs.DriftRows.{row_of}
use Rattle.sweep_table.specs.LookParts.{factor_of}
use Rattle.search_model.specs.Problem.{Problem, IsProblem}
use Rattle.search_model.specs.Same.{AreSame}
use Rattle.search_model.specs.Legal.{IsLegal, IsPath, last_of, moves_after, walks, continuations}
use Rattle.search_model.specs.Opening.{TakesLeastBest, IsOpening}
use Rattle.search_model.specs.Reference.{greatest_sum, IsLeastBest, IsReference}
use Rattle.search_model.specs.Tracks.{tracks, steps_product, weight_of, miss_from, miss_of, whole_weight, missed_weight, value_of}
use Rattle.search_model.specs.Order.{IsBest}
use Rattle.search_model.specs.Bounds.{factors_along, cell_in, reward_of, sum_along, greatest, IsRate, gain_of, tangent_of}
use Rattle.search_model.proofs.Greatest.{greatest-same}
use Rattle.search_model.proofs.LegalLemmas.{last_within}
use Rattle.search_model.proofs.Children.{child_is_legal}
use Rattle.search_model.proofs.PlainSteps.{positions_follow}
use Rattle.search_model.proofs.WalkLemmas.{listed_walk, front_is_legal}
use Rattle.list_laws.proofs.Sums.{sum_by-filter}
use Rattle.search_model.proofs.TrackMembers.{IsTrack, sum_tracks-same}

-- each is the same search as the other
pub AreSame-sym : (p o : Problem) → AreSame p o → AreSame o p
AreSame-sym p o same =
    let horizon = same.horizon in
    let cells = same.cells in
    let positions = same.positions in
    record {
      names = sym same.names;
      position_names = sym same.position_names;
      cells = sym cells;
      positions = sym positions;
      horizon = sym horizon;
      start = sym same.start;
      total = sym same.total;
      first = sym same.first;
      moves = sym same.moves;
      drift_denominator = sym same.drift_denominator;
      rows = λ t c from to here. sym (same.rows t c from (rw horizon to) (rw cells here));
      look_denominator = sym same.look_denominator;
      factors = λ t a c from to place here. sym (same.factors t a c from (rw horizon to) (rw positions place) (rw cells here));
    }

-- sums along a continuation of rewards that are the same in the periods up to the last
pub sum_along-same : (positions last : ℕ) (r w : ℕ → ℕ → ℕ) (t : ℕ) (y : List ℕ) → ((u a : ℕ) → t ≤ u → u ≤ last → a < positions → r u a ≡ w u a) →
    t + length y ≤ last + 1 → All (λ a. a < positions) y → sum_along r t y ≡ sum_along w t y
unfolding sum_along
sum_along-same positions last r w t [] each short within = refl
sum_along-same positions last r w t (a ∷ y) each short within =
    let here = each t a (omega arith) (omega (arith, short)) (All-head (λ a. a < positions) a y within) in
    let rest = sum_along-same positions last r w (t + 1) y (λ u b from to place. each u b (omega (arith, from)) to place) (omega (arith, short)) (All-tail (λ a. a < positions) a y within) in
    rw (here, rest) refl

-- the least walk of the greatest sum is the same one where the sums over all walks are the same
least_best-same : (rows : List (List ℕ)) (r w : ℕ → ℕ → ℕ) (n t a : ℕ) (y : List ℕ) → ((z : List ℕ) → Contains (walks rows n a) z → sum_along r t z ≡ sum_along w t z) →
    IsLeastBest rows r n t a y → IsLeastBest rows w n t a y
least_best-same rows r w n t a y each is =
    let most : greatest_sum rows r n t a ≡ greatest_sum rows w n t a = greatest-same (sum_along r t) (sum_along w t) (walks rows n a) each in
    record {
      walk = is.walk;
      best = sym (each y is.walk) ∙ is.best ∙ most;
      least = λ z listed best. is.least z listed (each z listed ∙ best ∙ sym most);
    }

-- the least walk of the greatest sum is the same one for the same moves, as many positions and the same place
least_best-moved : (rows ways : List (List ℕ)) (r : ℕ → ℕ → ℕ) (n m t a b : ℕ) (y : List ℕ) → rows ≡ ways → n ≡ m → a ≡ b → IsLeastBest rows r n t a y → IsLeastBest ways r m t b y
least_best-moved rows ways r n m t a b y moves many from is = rw (← moves, ← many, ← from) is

-- a path takes the same move as a greedy searcher where the moves and the values of longer prefixes are the same
takes_least-same : (p o : Problem) (q : List ℕ) (k : ℕ) → moves_after p (take k q) ≡ moves_after o (take k q) → value_of p (take (k + 1) q) ≡ value_of o (take (k + 1) q) →
    ((b : ℕ) → Contains (moves_after p (take k q)) b → value_of p (take k q ++ b ∷ []) ≡ value_of o (take k q ++ b ∷ [])) → TakesLeastBest p q k → TakesLeastBest o q k
takes_least-same p o q k moves next each takes b there =
    let here : Contains (moves_after p (take k q)) b = subst (λ ms. Contains ms b) (sym moves) there in
    rw (← next, ← each b here) (takes b here)

module _ (p o : Problem) (same : AreSame p o) where
  -- the same prefixes are legal
  pub legal_same : (q : List ℕ) → IsLegal p q → IsLegal o q
  legal_same q legal = record { follows = rw (← same.moves, ← same.start) legal.follows; short = rw (← same.horizon) legal.short }

  -- and the same ones are paths
  pub path_same : (q : List ℕ) → IsPath p q → IsPath o q
  path_same q path = record { follows = rw (← same.moves, ← same.start) path.follows; whole = rw (← same.horizon) path.whole }

  pub whole_same : whole_weight p ≡ whole_weight o
  whole_same = cc

  -- the weight of a track
  pub steps_same : (x : List ℕ) (t c : ℕ) → 1 ≤ t → t + length x ≤ p.horizon → c < p.cells → All (λ d. d < p.cells) x → steps_product p t c x ≡ steps_product o t c x
  unfolding steps_product
  steps_same [] t c from to here within = refl
  steps_same (d ∷ x) t c from to here within =
      let row : row_of p.drift t c ≡ row_of o.drift t c = same.rows t c from (omega (arith, to, le-max_right 2 p.horizon)) here in
      let rest = steps_same x (t + 1) d (omega arith) (omega (arith, to)) (All-head (λ d. d < p.cells) d x within) (All-tail (λ d. d < p.cells) d x within) in
      rw (row, rest) refl

  pub weight_same : (n : ℕ) (x : List ℕ) → n ≤ p.horizon → IsTrack p.cells n x → weight_of p x ≡ weight_of o x
  unfolding weight_of
  weight_same n [] short is = refl
  weight_same n (c ∷ x) short is =
      let steps = steps_same x 1 c (omega arith) (omega (arith, is.size, short)) (All-head (λ d. d < p.cells) c x is.within) (All-tail (λ d. d < p.cells) c x is.within) in
      rw (steps, same.first) refl

  -- what looks from positions miss along a track
  misses_same : (q x : List ℕ) (t : ℕ) → 1 ≤ t → t + length x ≤ p.horizon + 1 → All (λ a. a < p.positions) q → All (λ d. d < p.cells) x → miss_from p t q x ≡ miss_from o t q x
  unfolding miss_from
  misses_same q [] t from to places within = refl
  misses_same [] (c ∷ x) t from to places within =
      let rest = misses_same [] x (t + 1) (omega arith) (omega (arith, to)) places (All-tail (λ d. d < p.cells) c x within) in
      rw (same.look_denominator, rest) refl
  misses_same (a ∷ q) (c ∷ x) t from to places within =
      let rest = misses_same q x (t + 1) (omega arith) (omega (arith, to)) (All-tail (λ a. a < p.positions) a q places) (All-tail (λ d. d < p.cells) c x within) in
      let here = same.factors t a c from (omega (arith, to)) (All-head (λ a. a < p.positions) a q places) (All-head (λ d. d < p.cells) c x within) in
      rw (here, rest) refl

  pub factors_same : (q x : List ℕ) (t : ℕ) → 1 ≤ t → t + length x ≤ p.horizon + 1 → All (λ a. a < p.positions) q → All (λ d. d < p.cells) x → factors_along p t q x ≡ factors_along o t q x
  unfolding factors_along
  factors_same [] x t from to places within = refl
  factors_same (a ∷ q) [] t from to places within = refl
  factors_same (a ∷ q) (c ∷ x) t from to places within =
      let rest = factors_same q x (t + 1) (omega arith) (omega (arith, to)) (All-tail (λ a. a < p.positions) a q places) (All-tail (λ d. d < p.cells) c x within) in
      let here = same.factors t a c from (omega (arith, to)) (All-head (λ a. a < p.positions) a q places) (All-head (λ d. d < p.cells) c x within) in
      rw (here, rest) refl

  -- a look from a position in the cell of a track
  look_same : (x : List ℕ) → IsTrack p.cells p.horizon x → (t a : ℕ) → 1 ≤ t → t ≤ p.horizon → a < p.positions → factor_of p.sweep t a (cell_in x t) ≡ factor_of o.sweep t a (cell_in x t)
  look_same x is t a from to place = same.factors t a (cell_in x t) from to place (is.within (t - 1) 0 (omega (arith, is.size, from, to)))

  -- sums over tracks of so many cells of terms that are the same on them
  pub tracks_same_long : (n : ℕ) (f g : List ℕ → ℕ) → ((x : List ℕ) → IsTrack p.cells n x → f x ≡ g x) → sum_by f (tracks p.cells n) ≡ sum_by g (tracks o.cells n)
  tracks_same_long n f g each = rw (← same.cells) (sum_tracks-same p.cells n f g each)

  -- and over all tracks
  tracks_same : (f g : List ℕ → ℕ) → ((x : List ℕ) → IsTrack p.cells p.horizon x → f x ≡ g x) → sum_by f (tracks p.cells p.horizon) ≡ sum_by g (tracks o.cells o.horizon)
  tracks_same f g each = rw (← same.horizon) (tracks_same_long p.horizon f g each)

  missed_same : (q : List ℕ) → All (λ a. a < p.positions) q → missed_weight p q ≡ missed_weight o q
  unfolding missed_weight
  missed_same q places = tracks_same _ _ (λ x is. let weight = weight_same p.horizon x (omega arith) is in let miss = misses_same q x 1 (omega arith) (omega (arith, is.size)) places is.within in rw (weight, miss) refl)

  value_same : (q : List ℕ) → All (λ a. a < p.positions) q → value_of p q ≡ value_of o q
  value_same q places = rw (whole_same, missed_same q places) refl

  -- rewards and gains
  reward_same : (q : List ℕ) → All (λ a. a < p.positions) q → (t a : ℕ) → 1 ≤ t → t ≤ p.horizon → a < p.positions → reward_of p q t a ≡ reward_of o q t a
  unfolding reward_of
  reward_same q places t a from to place =
      tracks_same _ _ (λ x is.
      let weight = weight_same p.horizon x (omega arith) is in
      let front = factors_same q x 1 (omega arith) (omega (arith, is.size)) places is.within in
      let look = look_same x is t a from to place in
      rw (weight, front, look, same.look_denominator, same.horizon) refl)

  gain_same : (rate : ℕ) (whole : List ℕ) → All (λ a. a < p.positions) whole → (t a : ℕ) → 1 ≤ t → t ≤ p.horizon → a < p.positions → gain_of p rate whole t a ≡ gain_of o rate whole t a
  unfolding gain_of
  gain_same rate whole places t a from to place =
      let covered : Problem → List ℕ → Bool = λ z x. nat_lt (factor_of z.sweep t a (cell_in x t)) z.sweep.denominator in
      let missed : Problem → List ℕ → ℕ = λ z x. weight_of z x * miss_of z whole x in
      let term : Problem → List ℕ → ℕ = λ z x. missed z x * (if covered z x then 1 else 0) in
      let sums : sum_by (term p) (tracks p.cells p.horizon) ≡ sum_by (term o) (tracks o.cells o.horizon) = tracks_same _ _ (λ x is.
      let weight = weight_same p.horizon x (omega arith) is in
      let miss = misses_same whole x 1 (omega arith) (omega (arith, is.size)) places is.within in
      let look = look_same x is t a from to place in
      rw (weight, miss, look, same.look_denominator) refl) in
      rw (sum_by-filter (covered p) (missed p) (tracks p.cells p.horizon), sum_by-filter (covered o) (missed o) (tracks o.cells o.horizon), sums, same.look_denominator) refl

-- the same rate
pub rate_same : (p o : Problem) → AreSame p o → (rate : ℕ) → IsRate p rate → IsRate o rate
rate_same p o same rate is =
    let back = AreSame-sym p o same in
    let (t, a, c, from, to, place, here, reached) = is.reached in
    record {
      either = λ t a c from to place here.
          let factor = back.factors t a c from to place here in
          rw (factor, back.look_denominator) (is.either t a c from (rw same.horizon to) (rw same.positions place) (rw same.cells here));
      least = λ t a c from to place here. rw (back.factors t a c from to place here) (is.least t a c from (rw same.horizon to) (rw same.positions place) (rw same.cells here));
      reached = (t, a, c, from, rw (← same.horizon) to, rw (← same.positions) place, rw (← same.cells) here, sym (same.factors t a c from to place here) ∙ reached);
    }

module _ (p o : Problem) (same : AreSame p o) (sound : IsProblem p) where
  start_within : p.start < length p.moves
  start_within = omega (arith, sound.start, sound.grid_positions)

  -- a legal prefix holds positions
  pub legal_within : (q : List ℕ) → IsLegal p q → All (λ a. a < p.positions) q
  legal_within q legal = positions_follow p sound p.start start_within q legal.follows

  pub path_legal : (q : List ℕ) → IsPath p q → IsLegal p q
  path_legal q path = record { follows = path.follows; short = omega (arith, path.whole) }

  pub value_same_legal : (q : List ℕ) → IsLegal p q → value_of p q ≡ value_of o q
  value_same_legal q legal = value_same p o same q (legal_within q legal)

  -- the same moves come after a prefix
  moves_same : (q : List ℕ) → moves_after p q ≡ moves_after o q
  moves_same q = rw (same.moves, same.start) refl

  -- the same path is the greedy searcher's
  pub opening_same : (q : List ℕ) → IsOpening p q ↔ IsOpening o q
  opening_same q =
      let back = path_same o p (AreSame-sym p o same) q in
      let front : IsPath p q → (k : ℕ) → IsLegal p (take k q) = λ path k. front_is_legal p q k (path_legal q path) in
      let next : IsPath p q → (k : ℕ) → value_of p (take (k + 1) q) ≡ value_of o (take (k + 1) q) = λ path k. value_same_legal (take (k + 1) q) (front path (k + 1)) in
      let each : IsPath p q → (k : ℕ) → k < p.horizon → (b : ℕ) → Contains (moves_after p (take k q)) b → value_of p (take k q ++ b ∷ []) ≡ value_of o (take k q ++ b ∷ []) = λ path k inside b there.
      value_same_legal (take k q ++ b ∷ []) (child_is_legal p (take k q) b (front path k) (omega (arith, length-take-le k q (omega (arith, inside, path.whole)), inside)) there) in (
        (λ is. record {
          path = path_same p o same q is.path;
          steps = λ k inside.
              let before : k < p.horizon = rw same.horizon inside in
              takes_least-same p o q k (moves_same (take k q)) (next is.path k) (each is.path k before) (is.steps k before);
        }),
        (λ is. record {
          path = back is.path;
          steps = λ k inside.
              let path = back is.path in
              let moves = moves_same (take k q) in
              takes_least-same o p q k (sym moves) (sym (next path k)) (λ b there. sym (each path k inside b (subst (λ ms. Contains ms b) (sym moves) there))) (is.steps k (rw (← same.horizon) inside));
        }),
      )

  -- continuations to a path have the horizon's length, and hold positions
  continuation_within : (q y : List ℕ) → IsLegal p q → Contains (continuations p q) y → (length q + length y ≤ p.horizon) × All (λ a. a < p.positions) y
  continuation_within q y legal listed =
      let from = last_of p.start q in
      let walk = listed_walk p.moves (p.horizon - length q) from y listed in
      (omega (arith, walk.1, legal.short), positions_follow p sound from (last_within p.moves sound.grid p.start start_within q legal.follows) y walk.0)

  -- the rewards of a legal prefix have the same sums
  reward_sum_same : (q y : List ℕ) → IsLegal p q → length q + length y ≤ p.horizon → All (λ a. a < p.positions) y →
      sum_along (reward_of p q) (length q + 1) y ≡ sum_along (reward_of o q) (length q + 1) y
  reward_sum_same q y legal short within =
      sum_along-same p.positions p.horizon (reward_of p q) (reward_of o q) (length q + 1) y (λ t a from to place. reward_same p o same q (legal_within q legal) t a (omega (arith, from)) to place) (omega (arith, short)) within

  -- the same path is a prefix's reference
  pub reference_same : (q whole : List ℕ) → IsLegal p q → IsReference p q whole ↔ IsReference o q whole
  reference_same q whole legal =
      let n = p.horizon - length q in
      let t = length q + 1 in
      let a = last_of p.start q in
      let many : n ≡ o.horizon - length q = ap (λ h. h - length q) same.horizon in
      let from : a ≡ last_of o.start q = ap (λ s. last_of s q) same.start in
      let each : (y : List ℕ) → Contains (continuations p q) y → sum_along (reward_of p q) t y ≡ sum_along (reward_of o q) t y = λ y listed.
      let inside = continuation_within q y legal listed in
      reward_sum_same q y legal inside.0 inside.1 in (
        (λ (y, is, best). (y, is, least_best-moved p.moves o.moves (reward_of o q) n _ t a _ y same.moves many from (least_best-same p.moves (reward_of p q) (reward_of o q) n t a y each best))),
        (λ (y, is, best). (y, is, least_best-same p.moves (reward_of o q) (reward_of p q) n t a y (λ z listed. sym (each z listed)) (least_best-moved o.moves p.moves (reward_of o q) _ n t _ a y (sym same.moves) (sym many) (sym from) best))),
      )

  -- the greatest of numbers that are the same for each continuation
  pub greatest_same : (q : List ℕ) → IsLegal p q → (f g : List ℕ → ℕ) → ((y : List ℕ) → length q + length y ≤ p.horizon → All (λ a. a < p.positions) y → f y ≡ g y) →
      greatest (map f (continuations p q)) ≡ greatest (map g (continuations o q))
  greatest_same q legal f g each =
      let every : (y : List ℕ) → Contains (continuations p q) y → f y ≡ g y = λ y listed. let inside = continuation_within q y legal listed in each y inside.0 inside.1 in
      rw (← same.moves, ← same.horizon, ← same.start) (greatest-same f g (continuations p q) every)

  pub tangent_same : (rate : ℕ) (q whole : List ℕ) → IsLegal p q → IsPath p whole → tangent_of p rate q whole ≡ tangent_of o rate q whole
  tangent_same rate q whole legal path =
      let places = legal_within whole (path_legal whole path) in
      let along : (y : List ℕ) → length q + length y ≤ p.horizon → All (λ a. a < p.positions) y → sum_along (gain_of p rate whole) (length q + 1) y ≡ sum_along (gain_of o rate whole) (length q + 1) y = λ y short within.
      sum_along-same p.positions p.horizon (gain_of p rate whole) (gain_of o rate whole) (length q + 1) y (λ t a from to place. gain_same p o same rate whole places t a (omega (arith, from)) to place) (omega (arith, short)) within in
      let most = greatest_same q legal (sum_along (gain_of p rate whole) (length q + 1)) (sum_along (gain_of o rate whole) (length q + 1)) along in
      let rest = along (drop (length q) whole) (omega (arith, length-drop (length q) whole, path.whole, legal.short)) (All-drop (λ a. a < p.positions) (length q) whole places) in
      cc (value_same p o same whole places, most, rest, same.look_denominator)

  -- the same path is best
  pub best_same : (q : List ℕ) → IsBest p q ↔ IsBest o q
  best_same q =
      let back = path_same o p (AreSame-sym p o same) in
      let legal : (r : List ℕ) → IsPath p r → value_of p r ≡ value_of o r = λ r path. value_same_legal r (path_legal r path) in (
        (λ best. record { path = path_same p o same q best.path; better = λ r path differ. rw (← legal q best.path, ← legal r (back r path)) (best.better r (back r path) differ) }),
        (λ best. record { path = back q best.path; better = λ r path differ. rw (legal q (back q best.path), legal r path) (best.better r (path_same p o same r path) differ) }),
      )
