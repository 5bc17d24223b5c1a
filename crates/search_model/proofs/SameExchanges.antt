-- Problems that are the same search have the same leads and exchange bounds.
use Rattle.std.proofs.Common.{ℕ, ◌+◌, ◌*◌, ◌-◌, ◌<◌, ◌≤◌, ◌≡◌, List, [], ◌∷◌, ◌++◌, length, refl, arith, sum_by, All}
use Rattle.std.specs.List.{range_with_len}
use Rattle.std.proofs.lemmas.List.Elements.{All-head, All-tail}
use Rattle.list_laws.proofs.Sums.{sum_by-range-same}
use Rattle.search_model.specs.Problem.{Problem, IsProblem}
use Rattle.search_model.specs.Same.{AreSame}
use Rattle.search_model.specs.Legal.{IsLegal, last_of}
use Rattle.search_model.specs.Bounds.{sum_along}
use Rattle.search_model.specs.Exchange.{unit_reward, reward_for, mass_behind, lead_of, exchange_of}
use Rattle.search_model.proofs.SameSearch.{sum_along-same, steps_same, weight_same, factors_same, tracks_same_long, legal_within, value_same_legal, greatest_same}
use Rattle.search_model.proofs.TrackMembers.{track-push}

-- the last of some cells is a cell
last_cell : (cells c : ℕ) (z : List ℕ) → c < cells → All (λ d. d < cells) z → last_of c z < cells
last_cell cells c [] here within = here
last_cell cells c (d ∷ z) here within = last_cell cells d z (All-head (λ d. d < cells) d z within) (All-tail (λ d. d < cells) d z within)

module _ (p o : Problem) (same : AreSame p o) where
  -- sums over the cells of terms that are the same in them
  cells_same : (f g : ℕ → ℕ) → ((c : ℕ) → c < p.cells → f c ≡ g c) → sum_by f (range_with_len 0 p.cells) ≡ sum_by g (range_with_len 0 o.cells)
  cells_same f g each = rw (← same.cells) (sum_by-range-same p.cells f g each)

  -- what a look finds of a unit
  unit_same : (s c t a : ℕ) → 1 ≤ s → s ≤ t → t ≤ p.horizon → c < p.cells → a < p.positions → unit_reward p s c t a ≡ unit_reward o s c t a
  unfolding unit_reward
  unit_same s c t a from on to here place =
      tracks_same_long p o same (t - s) _ _ (λ z is.
      let steps = steps_same p o same z s c from (omega (arith, is.size, on, to)) here is.within in
      let look = same.factors t a (last_of c z) (omega (arith, from, on)) to place (last_cell p.cells c z here is.within) in
      rw (steps, look, same.look_denominator) refl)

  -- and of masses that are the same
  reward_for_same : (s : ℕ) (m n : ℕ → ℕ) → ((c : ℕ) → c < p.cells → m c ≡ n c) → (t a : ℕ) → 1 ≤ s → s ≤ t → t ≤ p.horizon → a < p.positions → reward_for p s m t a ≡ reward_for o s n t a
  unfolding reward_for
  reward_for_same s m n each t a from on to place =
      let found = cells_same (λ c. m c * unit_reward p s c t a) (λ c. n c * unit_reward o s c t a)
      (λ c here. let mass = each c here in let unit = unit_same s c t a from on to here place in rw (mass, unit) refl) in
      rw (found, same.horizon, same.drift_denominator, same.look_denominator) refl

  -- the masses behind a prefix
  mass_same : (q : List ℕ) → All (λ a. a < p.positions) q → length q < p.horizon → (c : ℕ) → c < p.cells → mass_behind p q c ≡ mass_behind o q c
  mass_same q places short c here =
      tracks_same_long p o same (length q + 1 - 1) _ _ (λ x is.
      let more = track-push p.cells (length q + 1 - 1) x c is here in
      let weight = weight_same p o same _ (x ++ c ∷ []) (omega (arith, short)) more in
      let front = factors_same p o same q (x ++ c ∷ []) 1 (omega arith) (omega (arith, more.size, short)) places more.within in
      rw (weight, front) refl)

  -- and its lead over another
  lead_same : (q r : List ℕ) → All (λ a. a < p.positions) q → All (λ a. a < p.positions) r → length q < p.horizon → length r < p.horizon → (c : ℕ) → c < p.cells → lead_of p q r c ≡ lead_of o q r c
  unfolding lead_of
  lead_same q r places others short shorter c here =
      let mass = mass_same q places short c here in
      let other = mass_same r others shorter c here in
      rw (mass, other) refl

-- the exchange bound of a prefix over another as long
pub exchange_same : (p o : Problem) → AreSame p o → IsProblem p → (q r : List ℕ) → IsLegal p q → IsLegal p r → length q < p.horizon → length r ≡ length q → exchange_of p q r ≡ exchange_of o q r
exchange_same p o same sound q r legal lawful short long =
    let t = length q + 1 in
    let lead = lead_same p o same q r (legal_within p o same sound q legal) (legal_within p o same sound r lawful) short (omega (arith, long, short)) in
    let along : (y : List ℕ) → length q + length y ≤ p.horizon → All (λ a. a < p.positions) y → sum_along (reward_for p t (lead_of p q r)) t y ≡ sum_along (reward_for o t (lead_of o q r)) t y =
    λ y few within.
    sum_along-same p.positions p.horizon (reward_for p t (lead_of p q r)) (reward_for o t (lead_of o q r)) t y
    (λ u a from to place. reward_for_same p o same t (lead_of p q r) (lead_of o q r) lead u a (omega arith) from to place) (omega (arith, few)) within in
    let most = greatest_same p o same sound q legal (sum_along (reward_for p t (lead_of p q r)) t) (sum_along (reward_for o t (lead_of o q r)) t) along in
    cc (value_same_legal p o same sound q legal, most)
