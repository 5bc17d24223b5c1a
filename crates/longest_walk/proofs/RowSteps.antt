-- The greatest among some places, one after another.
use Rattle.std.proofs.Common.{ℕ, ◌+◌, ◌≤◌, ◌<◌, ◌≡◌, max, List, map, length, drop, get_or, slice_index, inl, inr, ap, ◌∙◌, subst, arith, Contains}
use Rattle.std.specs.List.{IsFirstMaxByKey}
use Rattle.std.specs.List.Sorted.{IsStrictlyIncreasing}
use Rattle.std.proofs.lemmas.Bool.{cases_order}
use Rattle.std.proofs.lemmas.List.{at_drop_all, at_drop_more, get_or_default}
use Rattle.std.proofs.lemmas.List.Elements.{All-map, All-weaker, All-contains_itself}
use Rattle.std.proofs.lemmas.List.Kept.{AllPairs-from_increasing}
use Rattle.search_model.specs.Bounds.{greatest}
use Rattle.list_laws.proofs.Members.{Contains-map}
use Rattle.longest_walk.specs.Rows.{sums_at, IsLeastMove}
use Rattle.search_model.proofs.Greatest.{greatest-nil, greatest-cons, greatest_above, greatest_below}

-- one place more
pub best_more : (f : ℕ → ℕ) (xs : List ℕ) (i best whole : ℕ) → i < length xs → max best (greatest (map f (drop i xs))) ≡ whole →
    max (max (f (get_or xs i 0)) best) (greatest (map f (drop (i + 1) xs))) ≡ whole
best_more f xs i best whole here so_far =
    let left : greatest (map f (drop i xs)) ≡ max (f (get_or xs i 0)) (greatest (map f (drop (i + 1) xs))) =
    at_drop_more (λ ys. greatest (map f ys)) xs i 0 here ∙ greatest-cons (f (get_or xs i 0)) (map f (drop (i + 1) xs)) in
    omega (arith, left, so_far)

-- no place is left
pub best_all : (f : ℕ → ℕ) (xs : List ℕ) (i best whole : ℕ) → length xs ≤ i → max best (greatest (map f (drop i xs))) ≡ whole → best ≡ whole
best_all f xs i best whole all so_far =
    let left : greatest (map f (drop i xs)) ≡ 0 = at_drop_all (λ ys. greatest (map f ys)) xs i all ∙ greatest-nil in
    omega (arith, left, so_far)

-- the first of the greatest sums is that of the least move, since moves ascend
pub first_is_least : (sums : List ℕ) (row : ℕ) (moves : List ℕ) (i : ℕ) → IsStrictlyIncreasing moves →
    IsFirstMaxByKey (λ d. slice_index sums (row + d)) moves (length moves) i → IsLeastMove sums row moves (get_or moves i 0)
first_is_least sums row moves i ascending first = record {
  move = there;
  best = omega (arith, upper, lower);
  least = λ e listed same. not_before e listed same;
}
  where
    d : ℕ
    d = get_or moves i 0

    f : ℕ → ℕ
    f = λ d. slice_index sums (row + d)

    there : Contains moves d
    there = (i, first.0, get_or_default moves i d 0 first.0)

    none_above : (e : ℕ) → Contains moves e → f e ≤ f d
    none_above e listed =
        let at : get_or moves listed.0 0 ≡ e = get_or_default moves listed.0 0 e listed.1 ∙ listed.2 in
        subst (λ x. f x ≤ f d) at (first.1 listed.0 0 listed.1)

    upper : greatest (sums_at sums row moves) ≤ f d
    upper = greatest_below (f d) (map f moves) (All-map (λ v. v ≤ f d) f moves (All-weaker (Contains moves) (λ e. f e ≤ f d) none_above moves (All-contains_itself moves)))

    lower : f d ≤ greatest (sums_at sums row moves)
    lower = greatest_above (map f moves) (f d) (Contains-map f moves d there)

    not_before : (e : ℕ) → Contains moves e → f e ≡ greatest (sums_at sums row moves) → d ≤ e
    not_before e listed same =
        let at : get_or moves listed.0 0 ≡ e = get_or_default moves listed.0 0 e listed.1 ∙ listed.2 in
        elim (cases_order listed.0 i) [
          | inl equal ↦ subst (λ k. get_or moves k 0 ≤ e) equal (omega (arith, at))
          | inr o ↦ elim o [
            | inl before ↦ absurd (let less : f (get_or moves listed.0 0) < f d = first.2 listed.0 0 before in let value : f (get_or moves listed.0 0) ≡ f e = ap f at in omega (arith, less, value, same, lower))
            | inr after ↦ (let less : d < get_or moves listed.0 0 = AllPairs-from_increasing moves ascending i listed.0 0 after listed.1 in omega (arith, less, at))
          ]
        ]
