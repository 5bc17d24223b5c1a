-- Lists that are made number by number.
use Rattle.std.proofs.Common.{ℕ, ◌+◌, ◌≡◌, List, [], ◌∷◌, ◌++◌, map, sym, ap, ◌∙◌}
use Rattle.std.specs.List.{range_with_len}
use Rattle.std.proofs.lemmas.List.{map_push}
use Rattle.std.proofs.lemmas.List.FromFn.{map-range_with_len_more}

-- one number more
pub counted : {X : Type 0} (f : ℕ → X) (a n m k : ℕ) (xs : List X) (x : X) → a + n ≡ k → m ≡ n + 1 → xs ≡ map f (range_with_len a n) → x ≡ f k → xs ++ x ∷ [] ≡ map f (range_with_len a m)
counted f a n m k xs x at more so_far is = rw (so_far, is, more) (sym (map-range_with_len_more f a n k at))

-- the same, where what is made stands behind something else
pub counted_behind : {X Y : Type 0} (g : Y → X) (f : ℕ → X) (a n m k : ℕ) (ys made : List Y) (y : Y) → a + n ≡ k → m ≡ n + 1 → made ≡ ys ++ y ∷ [] → map g ys ≡ map f (range_with_len a n) → g y ≡ f k →
    map g made ≡ map f (range_with_len a m)
counted_behind g f a n m k ys made y at more is so_far own = ap (map g) is ∙ map_push g ys y ∙ counted f a n m k (map g ys) (g y) at more so_far own
