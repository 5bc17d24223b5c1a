-- What several looks find together is at most the sum of what each finds alone (Martins 1993).
use Rattle.std.proofs.Common.{ℕ, suc, ◌+◌, ◌-◌, ◌<◌, ◌≤◌, ◌≡◌, List, length, ap, ◌∙◌, arith}
use Rattle.search_model.specs.Problem.{Problem, IsProblem}
use Rattle.search_model.specs.Tracks.{missed_weight, whole_weight}
use Rattle.search_model.specs.Bounds.{reward_of, sum_along}
use Rattle.search_model.specs.Exchange.{reward_for, mass_behind}
use Rattle.search_model.proofs.Totals.{nothing_is_cut_off}
use Rattle.search_model.proofs.MassRewards.{masses_together, sum_along-less}
use Rattle.search_model.proofs.Behind.{missed_behind, missed_alone, mean_rewards_are}
use Rattle.bound_tree.specs.Accepts.{Extends}
use Rattle.bound_tree.specs.BoundLaws.{MeanIsAbove}
use Rattle.bound_tree.proofs.Continuing.{rest_of, whole_is, rest_size, rest_below}

-- what a prefix misses is at most what a path below it misses, and what each later look finds alone
missed_below : (p : Problem) → IsProblem p → (q y : List ℕ) → length q < p.horizon → Extends p q y →
    missed_weight p q ≤ missed_weight p y + sum_along (reward_of p q) (length q + 1) (rest_of q y)
missed_below p sound q y short path =
    let m = p.horizon - length q - 1 in
    let s = length q + 1 in
    let z = rest_of q y in
    let size : length z ≡ suc m = omega (arith, rest_size p q y path, short) in
    let whole : s + m ≡ p.horizon = omega (arith, short) in
    let missed = ap (missed_weight p) (whole_is p q y path) ∙ missed_behind p q z short in
    let together = masses_together p sound m s (mass_behind p q) z size whole in
    let alone = sum_along-less (reward_for p s (mass_behind p q)) (reward_of p q) s p.horizon z (omega (arith, size, whole))
    (λ u b from to. omega (arith, mean_rewards_are p q u b sound (omega (arith, from)) to)) in
    omega (arith, missed_alone p sound q m whole, missed, together, alone)

found_within : (w n m s most : ℕ) → n ≤ w → m ≤ w → n ≤ m + s → s ≤ most → w - m ≤ w - n + most
found_within w n m s most hn hm h b = omega arith

pub mean_is_above : MeanIsAbove
mean_is_above p q y sound legal short path =
    found_within (whole_weight p) (missed_weight p q) (missed_weight p y) (sum_along (reward_of p q) (length q + 1) (rest_of q y)) _
    (nothing_is_cut_off p q sound) (nothing_is_cut_off p y sound) (missed_below p sound q y short path) (rest_below p q y path (reward_of p q) (length q + 1))
