-- What holds of each element of a list and each later one.
use Rattle.std.proofs.Common.{zero, suc, List, [], ◌∷◌, ◌++◌, map, arith, All, AllPairs}
use Rattle.std.proofs.lemmas.List.Elements.{All-append, All-head, All-tail, All-map}

pub AllPairs-nil : {X : Type 0} (R : X → X → Type 0) → AllPairs R []
AllPairs-nil R i j d before inside = absurd (omega arith)

pub AllPairs-cons : {X : Type 0} (R : X → X → Type 0) (x : X) (xs : List X) → All (R x) xs → AllPairs R xs → AllPairs R (x ∷ xs)
AllPairs-cons R x xs first rest zero zero d before inside = absurd (omega arith)
AllPairs-cons R x xs first rest zero (suc j) d before inside = first j d (omega arith)
AllPairs-cons R x xs first rest (suc i) zero d before inside = absurd (omega arith)
AllPairs-cons R x xs first rest (suc i) (suc j) d before inside = rest i j d (omega arith) (omega arith)

-- what holds of the first element and each later one
pub AllPairs-head : {X : Type 0} (R : X → X → Type 0) (x : X) (xs : List X) → AllPairs R (x ∷ xs) → All (R x) xs
AllPairs-head R x xs h k d inside = h 0 (suc k) d (omega arith) (omega arith)

pub AllPairs-tail : {X : Type 0} (R : X → X → Type 0) (x : X) (xs : List X) → AllPairs R (x ∷ xs) → AllPairs R xs
AllPairs-tail R x xs h i j d before inside = h (suc i) (suc j) d (omega arith) (omega arith)

-- two lists one after the other, where it holds of each element of the first and each of the second
pub AllPairs-append : {X : Type 0} (R : X → X → Type 0) (xs ys : List X) → AllPairs R xs → AllPairs R ys → All (λ x. All (R x) ys) xs → AllPairs R (xs ++ ys)
AllPairs-append R [] ys h g across = g
AllPairs-append {X} R (x ∷ xs) ys h g across =
    let Q : X → Type 0 = λ x. All (R x) ys in
    AllPairs-cons R x (xs ++ ys)
    (All-append (R x) xs ys (AllPairs-head R x xs h) (All-head Q x xs across))
    (AllPairs-append R xs ys (AllPairs-tail R x xs h) g (All-tail Q x xs across))

-- the same of changed elements
pub AllPairs-map : {X Y : Type 0} (R : Y → Y → Type 0) (f : X → Y) (xs : List X) → AllPairs (λ x y. R (f x) (f y)) xs → AllPairs R (map f xs)
AllPairs-map R f [] h = AllPairs-nil R
AllPairs-map R f (x ∷ xs) h =
    AllPairs-cons R (f x) (map f xs) (All-map (R (f x)) f xs (AllPairs-head (λ x y. R (f x) (f y)) x xs h)) (AllPairs-map R f xs (AllPairs-tail (λ x y. R (f x) (f y)) x xs h))
