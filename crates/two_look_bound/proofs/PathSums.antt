-- The sum of rewards along a path, one look after the other.
use Rattle.std.proofs.Common.{ℕ, ◌+◌, ◌*◌, ◌-◌, ◌<◌, ◌≤◌, ◌≡◌, List, map, length, take, drop, slice_index, refl, ◌∙◌, arith}
use Rattle.std.proofs.lemmas.List.{at_drop_more, at_drop_all, length-drop}
use Rattle.search_model.specs.Problem.{Problem, IsProblem}
use Rattle.search_model.specs.Tracks.{whole_weight}
use Rattle.search_model.specs.Legal.{IsPath, continuations}
use Rattle.search_model.specs.Bounds.{reward_of, greatest}
use Rattle.search_model.specs.Edge.{edge_reward_of}
use Rattle.search_model.proofs.Greatest.{greatest_above}
use Rattle.list_laws.proofs.Members.{Contains-map}
use Rattle.edge_bound.proofs.PathSums.{rest_listed}
use Rattle.two_look_bound.specs.Pairs.{two_reward_of, sum_pairs, second_sum, two_sum}
use Rattle.two_look_bound.proofs.Walking.{sum_pairs-cons}
use Rattle.two_look_bound.proofs.Fitting.{sum_pairs-within}

-- one look more: the sum so far and that of the rest are the whole
pub sum_pairs-more : (r : ℕ → ℕ → ℕ → ℕ → ℕ) (x : List ℕ) (n sum whole : ℕ) → n < length x → 2 ≤ n → sum + sum_pairs r (n + 1) (slice_index x (n - 2)) (slice_index x (n - 1)) (drop n x) ≡ whole →
    sum + r (n + 1) (slice_index x (n - 2)) (slice_index x (n - 1)) (slice_index x n) + sum_pairs r (n + 1 + 1) (slice_index x (n + 1 - 2)) (slice_index x (n + 1 - 1)) (drop (n + 1) x) ≡ whole
sum_pairs-more r x n sum whole here some so_far =
    let back : n + 1 - 1 ≡ n = omega arith in
    let twice : n + 1 - 2 ≡ n - 1 = omega arith in
    let a = slice_index x (n - 2) in
    let b = slice_index x (n - 1) in
    let next = at_drop_more (sum_pairs r (n + 1) a b) x n 0 here ∙ sum_pairs-cons r (n + 1) a b (slice_index x n) (drop (n + 1) x) in
    rw (back, twice) (omega (arith, next, so_far))

-- past its end there is nothing to sum
pub sum_pairs-none : (r : ℕ → ℕ → ℕ → ℕ → ℕ) (t a b n : ℕ) (x : List ℕ) → length x ≤ n → sum_pairs r t a b (drop n x) ≡ 0
unfolding sum_pairs
sum_pairs-none r t a b n x past = at_drop_all (sum_pairs r t a b) x n past ∙ refl

module _ (p : Problem) (q x : List ℕ) where
  -- by way of the first look
  pub two_sum-first : length q < length x → two_sum p q (drop (length q) x) ≡ reward_of p q (length q + 1) (slice_index x (length q)) + second_sum p q (slice_index x (length q)) (drop (length q + 1) x)
  two_sum-first short = at_drop_more (two_sum p q) x (length q) 0 short ∙ refl

  -- and of the second one
  pub second_sum-first : (a : ℕ) → length q + 1 < length x →
      second_sum p q a (drop (length q + 1) x) ≡ edge_reward_of p q (length q + 1 + 1) a (slice_index x (length q + 1)) + sum_pairs (two_reward_of p q) (length q + 1 + 1 + 1) a (slice_index x (length q + 1)) (drop (length q + 1 + 1) x)
  second_sum-first a short = at_drop_more (second_sum p q a) x (length q + 1) 0 short ∙ refl

  pub second_sum-none : (a : ℕ) → length x ≤ length q + 1 → second_sum p q a (drop (length q + 1) x) ≡ 0
  second_sum-none a past = at_drop_all (second_sum p q a) x (length q + 1) past ∙ refl

  -- the sum along a path is within the greatest
  pub path-within : IsPath p x → take (length q) x ≡ q → two_sum p q (drop (length q) x) ≤ greatest (map (two_sum p q) (continuations p q))
  path-within path front = greatest_above (map (two_sum p q) (continuations p q)) (two_sum p q (drop (length q) x)) (Contains-map (two_sum p q) (continuations p q) (drop (length q) x) (rest_listed p q x path front))

-- the sum of the third look and of all later ones is within so many times the whole weight
pub rest-within : (p : Problem) → IsProblem p → (q x : List ℕ) → length x ≡ p.horizon → length q + 2 ≤ p.horizon →
    sum_pairs (two_reward_of p q) (length q + 2 + 1) (slice_index x (length q)) (slice_index x (length q + 1)) (drop (length q + 2) x) ≤ (p.horizon - (length q + 2)) * whole_weight p
rest-within p sound q x whole more =
    let size : length (drop (length q + 2) x) ≡ p.horizon - (length q + 2) = omega (arith, length-drop (length q + 2) x, whole) in
    let most = sum_pairs-within p sound q (length q + 2) (slice_index x (length q)) (slice_index x (length q + 1)) (drop (length q + 2) x) (omega arith) (omega (arith, size, more)) in
    rw size at most
