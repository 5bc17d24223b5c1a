-- Products of numbers.
use Rattle.std.proofs.Common.{ℕ, ◌*◌, ◌^◌, ◌≡◌, List, [], ◌∷◌, map, length, refl, arith}
use Rattle.std.proofs.Math.Nat.{pow-zero, pow-suc}
use Rattle.searcher_maps.specs.Stands.{product}

exchange : (a b c d : ℕ) → a * b * (c * d) ≡ a * c * (b * d)
exchange a b c d = omega arith

-- a product of products, factor by factor
pub product_times : {X : Type 0} (f g : X → ℕ) (xs : List X) → product (map f xs) * product (map g xs) ≡ product (map (λ x. f x * g x) xs)
product_times f g [] = refl
product_times f g (x ∷ xs) = rw (exchange (f x) (product (map f xs)) (g x) (product (map g xs)), product_times f g xs) refl

-- a product of the same number
pub product_same : {X : Type 0} (n : ℕ) (xs : List X) → product (map (λ _. n) xs) ≡ n ^ length xs
product_same n [] = rw (pow-zero n) refl
product_same n (x ∷ xs) = rw (product_same n xs, pow-suc n (length xs)) (omega arith)

-- a product of ones
pub product_ones : {X : Type 0} (xs : List X) → product (map (λ _. 1) xs) ≡ 1
product_ones [] = refl
product_ones (x ∷ xs) = rw (product_ones xs) refl
