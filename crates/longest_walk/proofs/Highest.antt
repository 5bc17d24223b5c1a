-- Rewards that agree, and rewards that are bounded.
use Rattle.std.proofs.Common.{ℕ, zero, suc, ◌+◌, ◌≤◌, ◌<◌, ◌≡◌, List, [], ◌∷◌, map, length, ap, arith, Contains}
use Rattle.std.specs.List.{range_with_len}
use Rattle.std.proofs.lemmas.List.Elements.{All-map, All-weaker, All-contains_itself}
use Rattle.std.proofs.lemmas.List.Sums.{sum_by-cons}
use Rattle.search_grid.specs.Moves.{IsGrid}
use Rattle.search_model.specs.Legal.{walks, Follows}
use Rattle.search_model.specs.Bounds.{sum_along, greatest}
use Rattle.list_laws.proofs.Members.{Contains-map}
use Rattle.search_model.proofs.LeastBest.{sum_along-agree}
use Rattle.search_model.proofs.LegalLemmas.{move_within, follows_within}
use Rattle.search_model.proofs.WalkLemmas.{listed_walk}
use Rattle.longest_walk.specs.Sums.{highest, highest_sum}
use Rattle.longest_walk.specs.Laws.{SameRewardsSameSum, HighestAbove, HighestBelow}
use Rattle.list_laws.proofs.Agreeing.{map_agree}
use Rattle.search_model.proofs.Greatest.{greatest_above, greatest_below}
use Rattle.list_laws.proofs.Ranges.{All-range, Contains-range_from_0}

pub same_rewards_same_sum : SameRewardsSameSum
same_rewards_same_sum rows r s n t a grid here same =
    ap greatest (map_agree (sum_along r t) (sum_along s t) (walks rows n a)
    (All-weaker (Contains (walks rows n a)) (λ y. sum_along r t y ≡ sum_along s t y)
    (λ y listed.
    let known = listed_walk rows n a y listed in
    sum_along-agree (length rows) r s t y (follows_within rows grid a here y known.0) (λ u q from to at. same u q from (omega (arith, to, known.1)) at))
    (walks rows n a) (All-contains_itself (walks rows n a))))

-- no reward is above the highest of its period
pub highest_above_reward : (positions : ℕ) (r : ℕ → ℕ → ℕ) (t q : ℕ) → q < positions → r t q ≤ highest positions r t
highest_above_reward positions r t q less = greatest_above (map (r t) (range_with_len 0 positions)) (r t q) (Contains-map (r t) (range_with_len 0 positions) q (Contains-range_from_0 positions q less))

-- the first period's highest reward, and those of the rest
pub highest_sum-suc : (positions : ℕ) (r : ℕ → ℕ → ℕ) (n t : ℕ) → highest_sum positions r (suc n) t ≡ highest positions r t + highest_sum positions r n (t + 1)
highest_sum-suc positions r n t = sum_by-cons (highest positions r) t (range_with_len (t + 1) n)

-- along one walk
sum_along_below_highest : (rows : List (List ℕ)) → IsGrid rows → (r : ℕ → ℕ → ℕ) (n t a : ℕ) (y : List ℕ) → a < length rows → Follows rows a y → length y ≡ n →
    sum_along r t y ≤ highest_sum (length rows) r n t
unfolding sum_along
sum_along_below_highest rows grid r n t a [] here follows long = omega arith
sum_along_below_highest rows grid r zero t a (b ∷ y) here follows long = cc
sum_along_below_highest rows grid r (suc n) t a (b ∷ y) here follows long =
    let there : b < length rows = move_within rows grid a b here follows.0 in
    let first = highest_above_reward (length rows) r t b there in
    let rest = sum_along_below_highest rows grid r n (t + 1) b y there follows.1 (cc) in
    omega (arith, first, rest, highest_sum-suc (length rows) r n t)

pub highest_above : HighestAbove
highest_above rows r n t a grid here =
    greatest_below (highest_sum (length rows) r n t) (map (sum_along r t) (walks rows n a))
    (All-map (λ v. v ≤ highest_sum (length rows) r n t) (sum_along r t) (walks rows n a)
    (All-weaker (Contains (walks rows n a)) (λ y. sum_along r t y ≤ highest_sum (length rows) r n t)
    (λ y listed. let known = listed_walk rows n a y listed in sum_along_below_highest rows grid r n t a y here known.0 known.1)
    (walks rows n a) (All-contains_itself (walks rows n a))))

pub highest_below : HighestBelow
highest_below positions most r zero t each = omega arith
highest_below positions most r (suc n) t each =
    let first : highest positions r t ≤ most =
    greatest_below most (map (r t) (range_with_len 0 positions)) (All-map (λ v. v ≤ most) (r t) (range_with_len 0 positions)
    (All-range (λ q. r t q ≤ most) 0 positions (λ q from to. each t q (omega arith) (omega arith) (omega (arith, to))))) in
    let rest = highest_below positions most r n (t + 1) (λ u q from to less. each u q (omega (arith, from)) (omega (arith, to)) less) in
    omega (arith, first, rest, highest_sum-suc positions r n t)

-- fewer periods have no greater sum
pub highest_sum-later : (positions : ℕ) (r : ℕ → ℕ → ℕ) (j n t : ℕ) → highest_sum positions r n (t + j) ≤ highest_sum positions r (j + n) t
highest_sum-later positions r zero n t = let e : t + 0 ≡ t = omega arith in let f : 0 + n ≡ n = omega arith in rw (e, f) (omega arith)
highest_sum-later positions r (suc j) n t =
    let rest = highest_sum-later positions r j n (t + 1) in
    let e : t + suc j ≡ t + 1 + j = omega arith in
    let f : suc j + n ≡ suc (j + n) = omega arith in
    rw (e, f) (omega (arith, rest, highest_sum-suc positions r (j + n) t))
