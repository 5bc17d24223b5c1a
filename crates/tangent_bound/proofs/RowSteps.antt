-- Steps over a flat table with one row of positions for each period.
use Rattle.std.proofs.Common.{ℕ, ◌+◌, ◌*◌, ◌-◌, ◌<◌, ◌≤◌, ◌≡◌, ◌≢◌, List, length, slice_index, slice_set, drop, refl, ◌∙◌, arith, get_or-set_other}
use Rattle.std.proofs.lemmas.List.{at_drop_more, at_drop_all}
use Rattle.search_model.specs.Bounds.{sum_along}
use Rattle.longest_walk.specs.Sums.{entry_at}
use Rattle.search_model.proofs.LeastBest.{sum_along-cons}

-- a number before the place that is written stays
pub earlier_stays : (xs : List ℕ) (place v i : ℕ) → i < place → slice_index (slice_set xs place v) i ≡ slice_index xs i
earlier_stays xs place v i before = let apart : i ≢ place = omega (arith, before) in rw get_or-set_other refl

-- one number more: the sum so far and that of the rest are the whole
pub sum_along-more : (positions : ℕ) (numbers x : List ℕ) (n sum whole : ℕ) → n < length x → sum + sum_along (entry_at positions numbers) (n + 1) (drop n x) ≡ whole →
    sum + slice_index numbers (n * positions + slice_index x n) + sum_along (entry_at positions numbers) (n + 1 + 1) (drop (n + 1) x) ≡ whole
sum_along-more positions numbers x n sum whole here so_far =
    let back : n + 1 - 1 ≡ n = omega arith in
    let next = at_drop_more (sum_along (entry_at positions numbers) (n + 1)) x n 0 here ∙ sum_along-cons (entry_at positions numbers) (n + 1) (slice_index x n) (drop (n + 1) x) in
    omega (arith, rw back at next, so_far)

-- past its end there is nothing to sum
pub sum_along-none : (r : ℕ → ℕ → ℕ) (t n : ℕ) (x : List ℕ) → length x ≤ n → sum_along r t (drop n x) ≡ 0
unfolding sum_along
sum_along-none r t n x past = at_drop_all (sum_along r t) x n past ∙ refl
