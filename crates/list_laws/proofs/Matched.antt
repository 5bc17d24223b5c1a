-- Two lists that match, element by element.
use Rattle.std.proofs.Common.{ℕ, suc, ◌<◌, ◌≡◌, List, [], ◌∷◌, length, get_or, map, refl, arith, All, sum_by}
use Rattle.std.specs.List.{AllZip}
use Rattle.std.proofs.lemmas.List.Elements.{length_all_zip, AllZip-get_or}
use Rattle.std.proofs.lemmas.List.Sums.{sum_by-cons}

-- what holds at each place holds of two lists of one length place by place
pub AllZip-from_places : {X : Type 0} (R : X → X → Type 0) (xs ys : List X) → length ys ≡ length xs → ((i : ℕ) (d : X) → i < length xs → R (get_or xs i d) (get_or ys i d)) → AllZip R xs ys
AllZip-from_places R [] [] many each = tt
AllZip-from_places R [] (y ∷ ys) many each = absurd (omega arith)
AllZip-from_places R (x ∷ xs) [] many each = absurd (omega arith)
AllZip-from_places R (x ∷ xs) (y ∷ ys) many each = (each 0 x (omega arith), AllZip-from_places R xs ys (omega (arith, many)) (λ i d l. each (suc i) d (omega (arith, l))))

module _ {X : Type 0} (R : X → X → Type 0) where
  -- what a match carries over from one element to the other, it carries over from all to all
  pub All-zip : (P Q : X → Type 0) → ((x y : X) → R x y → P x → Q y) → (xs ys : List X) → AllZip R xs ys → All P xs → All Q ys
  All-zip P Q carry xs ys zip all = λ k d l.
      let here : k < length xs = omega (arith, l, length_all_zip R xs ys zip) in
      carry (get_or xs k d) (get_or ys k d) (AllZip-get_or R xs ys k d d zip here) (all k d here)

  -- what is the same of two that match is the same in sum
  pub sum_by-zip : (f : X → ℕ) → ((x y : X) → R x y → f y ≡ f x) → (xs ys : List X) → AllZip R xs ys → sum_by f ys ≡ sum_by f xs
  sum_by-zip f same [] [] zip = refl
  sum_by-zip f same [] (y ∷ ys) zip = absurd zip
  sum_by-zip f same (x ∷ xs) [] zip = absurd zip
  sum_by-zip f same (x ∷ xs) (y ∷ ys) zip = omega (arith, sum_by-cons f x xs, sum_by-cons f y ys, same x y zip.0, sum_by-zip f same xs ys zip.1)

-- what two lists match by, their images do
pub AllZip-images : {X Y : Type 0} (S : Y → Y → Type 0) (f : X → Y) (xs ys : List X) → AllZip (λ x y. S (f x) (f y)) xs ys → AllZip S (map f xs) (map f ys)
AllZip-images S f [] [] zip = tt
AllZip-images S f [] (y ∷ ys) zip = absurd zip
AllZip-images S f (x ∷ xs) [] zip = absurd zip
AllZip-images S f (x ∷ xs) (y ∷ ys) zip = (zip.0, AllZip-images S f xs ys zip.1)

-- and by what follows from it
pub AllZip-weaker : {X : Type 0} (R S : X → X → Type 0) → ((x y : X) → R x y → S x y) → (xs ys : List X) → AllZip R xs ys → AllZip S xs ys
AllZip-weaker R S follows [] [] zip = tt
AllZip-weaker R S follows [] (y ∷ ys) zip = absurd zip
AllZip-weaker R S follows (x ∷ xs) [] zip = absurd zip
AllZip-weaker R S follows (x ∷ xs) (y ∷ ys) zip = (follows x y zip.0, AllZip-weaker R S follows xs ys zip.1)

-- and the other way round
pub AllZip-flip : {X : Type 0} (R S : X → X → Type 0) → ((x y : X) → R x y → S y x) → (xs ys : List X) → AllZip R xs ys → AllZip S ys xs
AllZip-flip R S turned [] [] zip = tt
AllZip-flip R S turned [] (y ∷ ys) zip = absurd zip
AllZip-flip R S turned (x ∷ xs) [] zip = absurd zip
AllZip-flip R S turned (x ∷ xs) (y ∷ ys) zip = (turned x y zip.0, AllZip-flip R S turned xs ys zip.1)

-- images of one list match, element by element
pub AllZip-both : {X Y : Type 0} (R : Y → Y → Type 0) (f g : X → Y) → ((x : X) → R (f x) (g x)) → (xs : List X) → AllZip R (map f xs) (map g xs)
AllZip-both R f g both [] = tt
AllZip-both R f g both (x ∷ xs) = (both x, AllZip-both R f g both xs)
