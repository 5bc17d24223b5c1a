-- Lists over a range of numbers.
use Rattle.std.proofs.Common.{◌≡◌, ℕ, zero, suc, ◌+◌, ◌<◌, ◌≤◌, List, ◌∷◌, map, set, refl, ap, arith}
use Rattle.std.specs.List.{range_with_len}

-- two functions that agree on the range
pub map-range-same : {X : Type 0} (n a : ℕ) (f g : ℕ → X) → ((c : ℕ) → a ≤ c → c < a + n → f c ≡ g c) → map f (range_with_len a n) ≡ map g (range_with_len a n)
map-range-same zero a f g same = refl
map-range-same {X} (suc n) a f g same =
    let head : f a ≡ g a = same a (omega arith) (omega arith) in
    rw head (ap (λ (xs : List X). g a ∷ xs) (map-range-same n (a + 1) f g (λ c low high. same c (omega arith) (omega arith))))

-- a write of g at place k, where f and g agree elsewhere
pub set-map-range : {X : Type 0} (n a k j : ℕ) (f g : ℕ → X) → k < n → a + k ≡ j → ((c : ℕ) → (c ≡ j → ⊥) → f c ≡ g c) → set (map f (range_with_len a n)) k (g j) ≡ map g (range_with_len a n)
set-map-range zero a k j f g lt at same = absurd (omega arith)
set-map-range {X} (suc n) a zero j f g lt at same =
    let here : j ≡ a = omega arith in
    let rest : map f (range_with_len (a + 1) n) ≡ map g (range_with_len (a + 1) n) = map-range-same n (a + 1) f g (λ c low high. same c (λ e. omega arith)) in
    rw (here, rest) refl
set-map-range {X} (suc n) a (suc k) j f g lt at same =
    let head : f a ≡ g a = same a (λ e. omega arith) in
    rw head (ap (λ (xs : List X). g a ∷ xs) (set-map-range n (a + 1) k j f g (omega arith) (omega arith) same))
