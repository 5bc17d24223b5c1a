-- Sums of rewards along walks, and the least walk of the greatest sum.
use Rattle.std.proofs.Common.{ℕ, ◌+◌, ◌≤◌, ◌<◌, ◌≡◌, ◌==◌, Bool, List, [], ◌∷◌, map, filter, length, refl, arith, All, Contains, eqb-true, eq-eqb}
use Rattle.std.proofs.lemmas.List.{length-map}
use Rattle.std.proofs.lemmas.List.Elements.{All-head, All-tail}
use Rattle.list_laws.proofs.Members.{Contains-map, Contains-map_cases, Contains-some}
use Rattle.list_laws.proofs.Filtered.{Contains-filter, Contains-filter_parts}
use Rattle.search_model.specs.Legal.{walks}
use Rattle.search_model.specs.Bounds.{sum_along}
use Rattle.search_model.specs.Order.{smaller}
use Rattle.search_model.specs.Reference.{greatest_sum, IsLeastBest}
use Rattle.search_model.specs.Laws.{OneLeastBest}
use Rattle.search_model.proofs.WalkLemmas.{some_walks}
use Rattle.search_model.proofs.Orders.{smaller_order, same_from_neither}
use Rattle.search_model.proofs.Best.{unbeaten}
use Rattle.search_model.proofs.Greatest.{greatest_above, greatest_reached}

-- the first position's reward, and the sum of the rest
pub sum_along-cons : (r : ℕ → ℕ → ℕ) (t b : ℕ) (y : List ℕ) → sum_along r t (b ∷ y) ≡ r t b + sum_along r (t + 1) y
unfolding sum_along
sum_along-cons r t b y = refl

-- rewards that agree in the periods of some positions have the same sum along them
pub sum_along-agree : (cells : ℕ) (r s : ℕ → ℕ → ℕ) (t : ℕ) (y : List ℕ) → All (λ a. a < cells) y → ((u a : ℕ) → t ≤ u → u < t + length y → a < cells → r u a ≡ s u a) →
    sum_along r t y ≡ sum_along s t y
unfolding sum_along
sum_along-agree cells r s t [] within agree = refl
sum_along-agree cells r s t (b ∷ y) within agree =
    let first : r t b ≡ s t b = agree t b (omega arith) (omega arith) (All-head (λ a. a < cells) b y within) in
    let rest = sum_along-agree cells r s (t + 1) y (All-tail (λ a. a < cells) b y within) (λ u a from to here. agree u a (omega (arith, from)) (omega (arith, to)) here) in
    omega (arith, first, rest)

-- no walk has more than the greatest sum
pub sum_along-below : (rows : List (List ℕ)) (r : ℕ → ℕ → ℕ) (n t a : ℕ) (y : List ℕ) → Contains (walks rows n a) y → sum_along r t y ≤ greatest_sum rows r n t a
sum_along-below rows r n t a y listed = greatest_above (map (sum_along r t) (walks rows n a)) (sum_along r t y) (Contains-map (sum_along r t) (walks rows n a) y listed)

pub one_least_best : OneLeastBest
one_least_best rows r n t a grid here =
    let ws : List (List ℕ) = walks rows n a in
    let top : ℕ = greatest_sum rows r n t a in
    let test : List ℕ → Bool = λ y. sum_along r t y == top in
    let some : 0 < length (map (sum_along r t) ws) = rw length-map (some_walks rows grid n a here) in
    let reached = Contains-map_cases (sum_along r t) ws top (greatest_reached (map (sum_along r t) ws) some) in
    let among = Contains-filter test ws reached.0 reached.1 (eq-eqb _ _ reached.2) in
    let found = unbeaten smaller smaller_order (filter test ws) (Contains-some _ reached.0 among) in
    let parts = Contains-filter_parts test ws found.0 found.1 in
    let least : IsLeastBest rows r n t a found.0 = record {
      walk = parts.0;
      best = eqb-true _ _ parts.1;
      least = λ z listed is. found.2 z (Contains-filter test ws z listed (eq-eqb _ _ is));
    } in
    (found.0, least, λ z other. same_from_neither z found.0 (least.least z other.walk other.best) (other.least found.0 least.walk least.best))
