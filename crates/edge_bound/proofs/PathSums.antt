-- The sum of edge rewards along a path, one look after the other.
use Rattle.std.proofs.Common.{ℕ, ◌+◌, ◌-◌, ◌<◌, ◌≤◌, ◌≡◌, List, ◌++◌, map, length, take, drop, slice_index, refl, sym, ap, ◌∙◌, subst, arith, Contains}
use Rattle.search_model.specs.Problem.{Problem}
use Rattle.search_model.specs.Legal.{Follows, IsPath, last_of, continuations}
use Rattle.search_model.specs.Bounds.{greatest}
use Rattle.search_model.specs.Edge.{sum_moves, edge_sum}
use Rattle.std.proofs.lemmas.List.{at_drop_more, at_drop_all, take-append-drop, length-drop}
use Rattle.search_model.proofs.Greatest.{greatest_above}
use Rattle.search_model.proofs.WalkLemmas.{walk_listed, follows-append}
use Rattle.list_laws.proofs.Members.{Contains-map}
use Rattle.edge_bound.proofs.Walking.{sum_moves-cons}

-- one look more: the sum so far and that of the rest are the whole
pub sum_moves-more : (r : ℕ → ℕ → ℕ → ℕ) (x : List ℕ) (n sum whole : ℕ) → n < length x → sum + sum_moves r (n + 1) (slice_index x (n - 1)) (drop n x) ≡ whole →
    sum + r (n + 1) (slice_index x (n - 1)) (slice_index x n) + sum_moves r (n + 1 + 1) (slice_index x (n + 1 - 1)) (drop (n + 1) x) ≡ whole
sum_moves-more r x n sum whole here so_far =
    let back : n + 1 - 1 ≡ n = omega arith in
    let before = slice_index x (n - 1) in
    let next = at_drop_more (sum_moves r (n + 1) before) x n 0 here ∙ sum_moves-cons r (n + 1) before (slice_index x n) (drop (n + 1) x) in
    rw back (omega (arith, next, so_far))

-- past its end there is nothing to sum
pub sum_moves-none : (r : ℕ → ℕ → ℕ → ℕ) (t a n : ℕ) (x : List ℕ) → length x ≤ n → sum_moves r t a (drop n x) ≡ 0
unfolding sum_moves
sum_moves-none r t a n x past = at_drop_all (sum_moves r t a) x n past ∙ refl

module _ (p : Problem) (q x : List ℕ) (path : IsPath p x) (front : take (length q) x ≡ q) where
  -- what is left of a path after a prefix is a continuation
  pub rest_listed : Contains (continuations p q) (drop (length q) x)
  rest_listed =
      let rest = drop (length q) x in
      let whole : x ≡ q ++ rest = sym (take-append-drop (length q) x) ∙ ap (λ (u : List ℕ). u ++ rest) front in
      let follows = (follows-append p.moves p.start q rest).0 (subst (Follows p.moves p.start) whole path.follows) in
      walk_listed p.moves (p.horizon - length q) (last_of p.start q) rest follows.1 (omega (arith, length-drop (length q) x, path.whole))

  -- so its rewards are within the greatest sum
  pub rest-within : edge_sum p q (drop (length q) x) ≤ greatest (map (edge_sum p q) (continuations p q))
  rest-within = greatest_above (map (edge_sum p q) (continuations p q)) (edge_sum p q (drop (length q) x)) (Contains-map (edge_sum p q) (continuations p q) (drop (length q) x) rest_listed)
