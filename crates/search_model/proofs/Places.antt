-- Lists at the front of a fixed number of places.
use Rattle.std.proofs.Common.{ℕ, ◌≡◌, ◌≤◌, ◌-◌, List, ◌++◌, length, take, drop, replicate, sym, ap, ◌∙◌, arith, length-append}
use Rattle.std.proofs.Math.Seq.{take-append_seam}
use Rattle.std.proofs.lemmas.List.{length-replicate, drop-replicate}
use Rattle.search_model.specs.PathPlaces.{padded, IsPadded}

-- a list is the front of its places
pub take-padded : (n : ℕ) (xs : List ℕ) → take (length xs) (padded n xs) ≡ xs
take-padded n xs = take-append_seam xs (replicate (n - length xs) 0)

-- a list that is filled up fits its places
pub padded_fits : (n : ℕ) (xs : List ℕ) → length xs ≤ n → IsPadded n (padded n xs) (length xs)
padded_fits n xs short = record {
  small = short;
  size = length-append xs (replicate (n - length xs) 0) ∙ omega (arith, short, length-replicate {A = ℕ} (n - length xs) 0);
  rest = ap (padded n) (sym (take-padded n xs));
}

-- a list at the front of zeros fills them up
pub filled_front : (n : ℕ) (xs : List ℕ) → length xs ≤ n → IsPadded n (xs ++ drop (length xs) (replicate n 0)) (length xs) × (take (length xs) (xs ++ drop (length xs) (replicate n 0)) ≡ xs)
filled_front n xs short = rw (drop-replicate {X = ℕ} (length xs) n 0) (padded_fits n xs short, take-padded n xs)
