-- What two paths find together.
use Rattle.std.proofs.Common.{◌≡◌, ℕ, ◌+◌, ◌-◌, ◌*◌, ◌^◌, ◌≤◌, List, [], ◌∷◌, refl, sym, ap, ◌∙◌, arith, inl, inr}
use Rattle.std.proofs.lemmas.Nat.{mul-pow, pow-add}
use Rattle.search_model.specs.Problem.{Problem}
use Rattle.search_model.specs.Legal.{IsPath}
use Rattle.search_model.specs.Tracks.{whole_weight, value_of}
use Rattle.search_model.specs.Order.{standing_of, IsBest}
use Rattle.search_model.proofs.Orders.{same_or_differ, better_one_way, not_better_parts}
use Rattle.searcher_maps.proofs.Finding.{missed_by_team}
use Rattle.duo_search.specs.Product.{pair_value, first_at, second_at, IsProduct}
use Rattle.duo_search.specs.Pairs.{paired}
use Rattle.duo_search.specs.Laws.{PairIsValue, NoPairFindsMore}
use Rattle.duo_search.proofs.PairPaths.{stands_for_both, paths_are_pairs}

squared_power : (g t : ℕ) → (g * g) ^ t ≡ g ^ (2 * t)
squared_power g t =
    let twice : 2 * t ≡ t + t = omega arith in
    mul-pow g g t ∙ sym (pow-add g t t) ∙ ap (λ n. g ^ n) (sym twice)

-- the whole weight of both
whole_of_both : (p q : Problem) (second : ℕ) → IsProduct p second q → whole_weight q ≡ p.total * p.drift.denominator ^ (p.horizon - 1) * p.sweep.denominator ^ (2 * p.horizon)
whole_of_both p q second made =
    let target = made.target in
    rw (target.total, target.drift_denominator, target.horizon, made.denominator, squared_power p.sweep.denominator p.horizon) refl

pub pair_is_value : PairIsValue
pair_is_value p q second sound other made z path =
    let missed = missed_by_team p q (first_at p.positions ∷ second_at p.positions ∷ []) sound other (stands_for_both p q second sound other made) z path in
    rw (whole_of_both p q second made, missed) refl

-- no path finds more than the best
best_is_most : (q : Problem) (z r : List ℕ) → IsBest q z → IsPath q r → value_of q r ≤ value_of q z
best_is_most q z r best path = elim (same_or_differ r z) [
  | inl same ↦ rw same (omega arith)
  | inr differ ↦ (not_better_parts (standing_of q r) (standing_of q z) (better_one_way (standing_of q z) (standing_of q r) (best.better r path differ))).0
]

pub no_pair_finds_more : NoPairFindsMore
no_pair_finds_more p q second sound other made below z best a b first second' =
    let r = paired p.positions a b in
    let pairs = paths_are_pairs p q second sound other made below in
    let path = pairs.path a b first second' in
    let says = pairs.says a b first second' in
    let most = best_is_most q z r best path in
    let of_best = pair_is_value p q second sound other made z best.path in
    let of_pair : value_of q r ≡ pair_value p a b = pair_is_value p q second sound other made r path ∙ rw (says.0, says.1) refl in
    omega (arith, most, of_best, of_pair)
