-- A prefix for which another stands in: whatever goes on from both, the other makes the better path.
use Rattle.std.proofs.Common.{ℕ, suc, ◌+◌, ◌*◌, ◌-◌, ◌^◌, ◌<◌, ◌≤◌, ◌≡◌, List, ◌++◌, map, length, take, drop, true, ltb-true, eqb-true, true≢false, inl, inr, sym, ap, ◌∙◌, subst, arith, sum_by, mul-le-mul_left, length-append}
use Rattle.std.specs.List.{range_with_len}
use Rattle.std.proofs.lemmas.Nat.{mul-le}
use Rattle.std.proofs.lemmas.Bool.{or_cases, and_parts, cases_lt, cases_order}
use Rattle.std.proofs.lemmas.List.{take-append-le}
use Rattle.std.proofs.Math.Nat.{pow-suc}
use Rattle.search_model.specs.Problem.{Problem, IsProblem}
use Rattle.search_model.specs.Legal.{IsPath, Follows, last_of, continuations}
use Rattle.search_model.specs.Tracks.{missed_weight, whole_weight, value_of}
use Rattle.search_model.specs.Bounds.{sum_along, greatest}
use Rattle.search_model.specs.Exchange.{missed_unit, reward_for, mass_behind, lead_of, exchange_of}
use Rattle.search_model.specs.Order.{smaller, better, standing_of}
use Rattle.list_laws.proofs.Sums.{sum_by-plus, sum_by-times, sum_by-range-le}
use Rattle.search_model.proofs.After.{look_factor-le, after_of-le}
use Rattle.search_model.proofs.Behind.{missed_behind, missed_alone}
use Rattle.search_model.proofs.LeastBest.{sum_along-below}
use Rattle.search_model.proofs.Orders.{better_by_value, better_by_path, better_irreflexive, better_one_way}
use Rattle.search_model.proofs.MassRewards.{masses_together}
use Rattle.search_model.proofs.Totals.{nothing_is_cut_off}
use Rattle.search_model.proofs.WalkLemmas.{follows-append}
use Rattle.bound_tree.specs.Accepts.{Extends}
use Rattle.bound_tree.specs.Exchanges.{StandsIn}
use Rattle.bound_tree.specs.ExchangeLaws.{ExchangeRulesOut}
use Rattle.bound_tree.proofs.Closing.{smaller_by_fronts}
use Rattle.bound_tree.proofs.Continuing.{rest_of, whole_is, rest_size, rest_listed}

-- what looks miss of a unit is at most all of it
missed_unit-le : (p : Problem) → IsProblem p → (s m : ℕ) (y : List ℕ) (c : ℕ) → c < p.cells → missed_unit p s y m c ≤ p.drift.denominator ^ m * p.sweep.denominator ^ suc m
missed_unit-le p sound s m y c here =
    rw (pow-suc p.sweep.denominator m) (omega (arith, mul-le _ _ _ _ (look_factor-le p sound s y c) (after_of-le p sound m s c here (drop 1 y))))

-- of masses a and b, of which looks miss the part n of m: what b loses less than a does is at most what the lead loses
less_lost : (a b n m : ℕ) → n ≤ m → a * m + b * n + (a - b) * n ≤ b * m + a * n + (a - b) * m
less_lost a b n m part = elim (cases_lt a b) [
  | inl below ↦
      let none : a - b ≡ 0 = omega (arith, below) in
      let rest : a + (b - a) ≡ b = omega (arith, below) in
      rw none (subst (λ z. a * m + z * n + 0 * n ≤ z * m + a * n + 0 * m) rest (omega (arith, mul-le-mul_left (b - a) part)))
  | inr above ↦
      let rest : b + (a - b) ≡ a = omega (arith, above) in
      subst (λ z. z * m + b * n + (a - b) * n ≤ b * m + z * n + (a - b) * m) rest (omega arith)
]

module _ (p : Problem) (sound : IsProblem p) (q r y : List ℕ) (short : length q < p.horizon) (long : length r ≡ length q) (rest : length y ≡ p.horizon - length q) where
  -- what the one finds more of the continuation than the other is at most the sum of the rewards of its lead
  lead_found :
      missed_weight p q + missed_weight p (r ++ y)
      ≤ missed_weight p r + missed_weight p (q ++ y) + sum_along (reward_for p (length q + 1) (lead_of p q r)) (length q + 1) y
  unfolding lead_of
  lead_found =
      let m = p.horizon - length q - 1 in
      let s = length q + 1 in
      let cells = range_with_len 0 p.cells in
      let most = p.drift.denominator ^ m * p.sweep.denominator ^ suc m in
      let a : ℕ → ℕ = mass_behind p q in
      let b : ℕ → ℕ = mass_behind p r in
      let n : ℕ → ℕ = missed_unit p s y m in
      let left : ℕ → ℕ = λ c. a c * most + b c * n c + (a c - b c) * n c in
      let right : ℕ → ℕ = λ c. b c * most + a c * n c + (a c - b c) * most in
      let terms = sum_by-range-le p.cells left right (λ c here. less_lost (a c) (b c) (n c) most (missed_unit-le p sound s m y c here)) in
      let lefts = sum_by-plus (λ c. a c * most + b c * n c) (λ c. (a c - b c) * n c) cells in
      let lefts_too = sum_by-plus (λ c. a c * most) (λ c. b c * n c) cells in
      let rights = sum_by-plus (λ c. b c * most + a c * n c) (λ c. (a c - b c) * most) cells in
      let rights_too = sum_by-plus (λ c. b c * most) (λ c. a c * n c) cells in
      let of_a = sum_by-times a most cells in
      let of_b = sum_by-times b most cells in
      let of_lead = sum_by-times (λ c. a c - b c) most cells in
      let together = masses_together p sound m s (λ c. a c - b c) y (omega (arith, rest, short)) (omega (arith, short)) in
      let alone_q = missed_alone p sound q m (omega (arith, short)) in
      let alone_r = missed_alone p sound r m (omega (arith, short, long)) in
      let whole_q = missed_behind p q y short in
      let whole_r = missed_behind p r y (omega (arith, short, long)) ∙ ap (λ (k : ℕ). sum_by (λ c. b c * missed_unit p (k + 1) y (p.horizon - k - 1) c) cells) long in
      omega (arith, terms, lefts, lefts_too, rights, rights_too, of_a, of_b, of_lead, together, alone_q, alone_r, whole_q, whole_r)

values_from : (w q r qy ry found most : ℕ) → q ≤ w → r ≤ w → qy ≤ w → ry ≤ w → q + ry ≤ r + qy + found → found ≤ most → (w - qy) + (w - r) ≤ (w - ry) + ((w - q) + most)
values_from w q r qy ry found most hq hr hqy hry h le = omega arith

module _ (p : Problem) (sound : IsProblem p) (q r b : List ℕ) (short : length q < p.horizon) (twin : StandsIn p r q) (x : Extends p q b) where
  -- the other prefix goes on to a path
  pub other_path : IsPath p (r ++ rest_of q b)
  other_path =
      let parts = (follows-append p.moves p.start q (rest_of q b)).0 (subst (Follows p.moves p.start) (whole_is p q b x) x.path.follows) in
      let on : Follows p.moves (last_of p.start r) (rest_of q b) = subst (λ a. Follows p.moves a (rest_of q b)) (sym twin.last) parts.1 in
      record {
        follows = (follows-append p.moves p.start r (rest_of q b)).1 (twin.legal.follows, on);
        whole = omega (arith, length-append r (rest_of q b), twin.long, rest_size p q b x, short);
      }

  -- and finds no less than the exchange bound leaves to it
  finds_more : value_of p b + value_of p r ≤ value_of p (r ++ rest_of q b) + exchange_of p q r
  finds_more =
      let y = rest_of q b in
      let rewards = reward_for p (length q + 1) (lead_of p q r) in
      let found = lead_found p sound q r y short twin.long (rest_size p q b x) in
      let listed : sum_along rewards (length q + 1) y ≤ greatest (map (sum_along rewards (length q + 1)) (continuations p q)) =
      sum_along-below p.moves rewards (p.horizon - length q) (length q + 1) (last_of p.start q) y (rest_listed p q b x) in
      let whole : missed_weight p b ≡ missed_weight p (q ++ y) = ap (missed_weight p) (whole_is p q b x) in
      values_from (whole_weight p) (missed_weight p q) (missed_weight p r) (missed_weight p b) (missed_weight p (r ++ y)) _ _
      (nothing_is_cut_off p q sound) (nothing_is_cut_off p r sound) (nothing_is_cut_off p b sound) (nothing_is_cut_off p (r ++ y) sound)
      (omega (arith, found, whole)) listed

  -- so the path that goes on from the other prefix is better
  pub other_is_better : better (standing_of p (r ++ rest_of q b)) (standing_of p b) ≡ true
  other_is_better =
      let y = rest_of q b in
      elim (or_cases _ _ twin.cut) [
        | inl less ↦
            let above = ltb-true (exchange_of p q r) (value_of p r) less in
            better_by_value (standing_of p (r ++ y)) (standing_of p b) (omega (arith, above, finds_more))
        | inr level ↦
            let parts = and_parts _ _ level in
            let same = eqb-true (exchange_of p q r) (value_of p r) parts.0 in
            let front : take (length q) (r ++ y) ≡ take (length q) r = take-append-le (length q) r y (omega (arith, twin.long)) in
            let fronts : smaller (take (length q) (r ++ y)) (take (length q) b) ≡ true = rw (front, x.front) parts.1 in
            elim (cases_order (value_of p (r ++ y)) (value_of p b)) [
              | inl e ↦ better_by_path (standing_of p (r ++ y)) (standing_of p b) e (smaller_by_fronts (length q) (r ++ y) b fronts)
              | inr apart ↦ better_by_value (standing_of p (r ++ y)) (standing_of p b) (let no_less : value_of p b ≤ value_of p (r ++ y) = omega (arith, same, finds_more) in omega (arith, apart, no_less))
            ]
      ]

pub exchange_rules_out : ExchangeRulesOut
exchange_rules_out p q r b sound short twin best x =
    let other = r ++ rest_of q b in
    let wins = other_is_better p sound q r b short twin x in
    let loses : better (standing_of p b) (standing_of p other) ≡ true = best.better other (other_path p sound q r b short twin x) (λ e.
    true≢false (sym wins ∙ ap (λ (z : List ℕ). better (standing_of p z) (standing_of p b)) e ∙ better_irreflexive (standing_of p b))) in
    true≢false (sym loses ∙ better_one_way (standing_of p other) (standing_of p b) wins)
