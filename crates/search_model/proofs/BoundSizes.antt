-- How large the bounds are at most: no reward is above the whole weight, and no gain above the whole weight in finer parts.
use Rattle.std.proofs.Common.{ℕ, ◌+◌, ◌*◌, ◌-◌, ◌≤◌, ◌≡◌, Bool, nat_lt, if◌then◌else◌, List, [], ◌∷◌, ◌++◌, map, filter, length, drop, ap, ◌∙◌, subst, arith, sum_by, Contains, length-append}
use Rattle.std.proofs.Math.Nat.{mul-le-mul_left, le_refl}
use Rattle.std.proofs.Math.Seq.{drop-append_seam}
use Rattle.std.proofs.lemmas.Bool.{cond_both}
use Rattle.std.proofs.lemmas.Nat.{mul-le}
use Rattle.std.proofs.lemmas.List.Sums.{sum_by-le-sum_by}
use Rattle.std.proofs.lemmas.List.Elements.{All-map, All-weaker, All-contains_itself}
use Rattle.list_laws.proofs.Sums.{sum_by-filter}
use Rattle.sweep_table.specs.LookParts.{factor_of}
use Rattle.search_model.specs.Problem.{Problem, IsProblem}
use Rattle.search_model.specs.Legal.{IsLegal, IsPath, last_of, continuations}
use Rattle.search_model.specs.Tracks.{tracks, weight_of, miss_of, missed_weight, whole_weight, value_of}
use Rattle.search_model.specs.Bounds.{cell_in, reward_of, sum_along, greatest, gain_of}
use Rattle.search_model.specs.Laws.{MeanSize, TangentSize, NoTangentCutOff}
use Rattle.search_model.proofs.WalkLemmas.{listed_walk, follows-append, continuations_are}
use Rattle.search_model.proofs.Totals.{nothing_is_cut_off}
use Rattle.search_model.proofs.Greatest.{greatest_below}
use Rattle.search_model.proofs.LeastBest.{sum_along-below}
use Rattle.search_model.proofs.RewardSizes.{reward-within}

-- what some of the tracks miss is at most what all miss
some_tracks-le : (test : List ℕ → Bool) (f : List ℕ → ℕ) (xs : List (List ℕ)) → sum_by f (filter test xs) ≤ sum_by f xs
some_tracks-le test f xs =
    let each = sum_by-le-sum_by (λ x. f x * (if test x then 1 else 0)) f xs (λ x. cond_both (test x) 1 0 (λ b. f x * b ≤ f x) (λ _. omega arith) (λ _. omega arith)) in
    omega (arith, each, sum_by-filter test f xs)

-- no gain is above the whole weight in finer parts
gain-le : (p : Problem) → IsProblem p → (rate : ℕ) (whole : List ℕ) (t a : ℕ) → gain_of p rate whole t a ≤ p.sweep.denominator * whole_weight p
unfolding gain_of missed_weight
gain-le p sound rate whole t a =
    let some = some_tracks-le (λ x. nat_lt (factor_of p.sweep t a (cell_in x t)) p.sweep.denominator) (λ x. weight_of p x * miss_of p whole x) (tracks p.cells p.horizon) in
    mul-le _ _ _ _ (let le : p.sweep.denominator - rate ≤ p.sweep.denominator = omega arith in le) (omega (arith, some, nothing_is_cut_off p whole sound))

-- numbers of which none is above a bound sum to at most so many times the bound
sum_along-le : (r : ℕ → ℕ → ℕ) (most : ℕ) → ((t a : ℕ) → r t a ≤ most) → (t : ℕ) (y : List ℕ) → sum_along r t y ≤ length y * most
unfolding sum_along
sum_along-le r most each t [] = omega arith
sum_along-le r most each t (a ∷ y) = omega (arith, each t a, sum_along-le r most each (t + 1) y)

-- and so do those of each continuation
sums-le : (p : Problem) (q : List ℕ) (r : ℕ → ℕ → ℕ) (most t : ℕ) → ((u a : ℕ) → r u a ≤ most) → greatest (map (sum_along r t) (continuations p q)) ≤ p.horizon * most
sums-le p q r most t each =
    let n : ℕ = p.horizon - length q in
    let from : ℕ = last_of p.start q in
    let all : ℕ = p.horizon * most in
    greatest_below all (map (sum_along r t) (continuations p q))
    (All-map (λ v. v ≤ all) (sum_along r t) (continuations p q)
    (All-weaker (Contains (continuations p q)) (λ y. sum_along r t y ≤ all)
    (λ y listed.
    let known = listed_walk p.moves n from y listed in
    let few : length y * most ≤ p.horizon * most = mul-le _ _ _ _ (let le : length y ≤ p.horizon = omega (arith, known.1) in le) (le_refl most) in
    omega (arith, few, sum_along-le r most each t y))
    (continuations p q) (All-contains_itself (continuations p q))))

pub mean_size : MeanSize
mean_size p q sound short =
    let sums = sums-le p q (reward_of p q) (whole_weight p) (length q + 1) (λ t a. reward-within p sound q t a short) in
    omega (arith, sums)

within_parts : (g w v s r n : ℕ) → v ≤ w → s ≤ n * (g * w) → g * v + s - r ≤ (n + 1) * w * g
within_parts g w v s r n hv hs = omega (arith, mul-le-mul_left g hv, hs)

pub tangent_size : TangentSize
tangent_size p rate q whole sound =
    let sums = sums-le p q (gain_of p rate whole) (p.sweep.denominator * whole_weight p) (length q + 1) (gain-le p sound rate whole) in
    within_parts p.sweep.denominator (whole_weight p) (value_of p whole) _ _ p.horizon (omega arith) sums

-- the front of a path is legal
front_legal : (p : Problem) (q rest : List ℕ) → IsPath p (q ++ rest) → IsLegal p q
front_legal p q rest path = record {
  follows = ((follows-append p.moves p.start q rest).0 path.follows).0;
  short = omega (arith, length-append q rest, path.whole);
}

pub no_tangent_is_cut_off : NoTangentCutOff
no_tangent_is_cut_off p rate q whole path (rest, is) =
    let gains : ℕ → ℕ → ℕ = gain_of p rate whole in
    let on : IsPath p (q ++ rest) = subst (IsPath p) is path in
    let listed = (continuations_are p q rest (front_legal p q rest on)).1 on in
    let most = sum_along-below p.moves gains (p.horizon - length q) (length q + 1) (last_of p.start q) rest listed in
    let left : drop (length q) whole ≡ rest = ap (drop (length q)) is ∙ drop-append_seam q rest in
    rw left (omega (arith, most))
