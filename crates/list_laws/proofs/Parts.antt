-- Lists that are joined from parts.
use Rattle.std.proofs.Common.{◌≡◌, List, [], ◌∷◌, refl, All, AllPairs, Contains, flat_map}
use Rattle.std.proofs.lemmas.List.Elements.{All-nil, All-append, All-head, All-tail, All-weaker, All-contains, All-contains_itself}
use Rattle.list_laws.proofs.Pairs.{AllPairs-nil, AllPairs-head, AllPairs-tail, AllPairs-append}

-- equal parts are equal when joined
pub flat_map-same : {A B : Type 0} (f g : A → List B) (xs : List A) → ((x : A) → f x ≡ g x) → flat_map f xs ≡ flat_map g xs
flat_map-same f g [] h = refl
flat_map-same f g (x ∷ xs) h = rw (h x, flat_map-same f g xs h) refl

-- what holds of each element of each part holds of each element of the whole
pub All-flat_map : {A B : Type 0} (P : B → Type 0) (f : A → List B) (xs : List A) → ((x : A) → Contains xs x → All P (f x)) → All P (flat_map f xs)
All-flat_map {A} P f xs h = joined xs (All-weaker (Contains xs) Q h xs (All-contains_itself xs))
  where
    Q : A → Type 0
    Q = λ x. All P (f x)

    joined : (ys : List A) → All Q ys → All P (flat_map f ys)
    joined [] each = All-nil P
    joined (x ∷ ys) each = All-append P (f x) (flat_map f ys) (All-head Q x ys each) (joined ys (All-tail Q x ys each))

-- what holds of each element and each later one within the parts, and of the elements of two parts, holds so in the whole
pub AllPairs-flat_map : {A B : Type 0} (S : A → A → Type 0) (R : B → B → Type 0) (f : A → List B) (xs : List A) → AllPairs S xs → All (λ x. AllPairs R (f x)) xs →
    ((a b : A) → S a b → (x y : B) → Contains (f a) x → Contains (f b) y → R x y) → AllPairs R (flat_map f xs)
AllPairs-flat_map S R f [] pairs each across = AllPairs-nil R
AllPairs-flat_map {A} {B} S R f (a ∷ xs) pairs each across =
    let P : A → Type 0 = λ x. AllPairs R (f x) in
    let Q : B → Type 0 = λ x. All (R x) (flat_map f xs) in
    AllPairs-append R (f a) (flat_map f xs)
    (All-head P a xs each)
    (AllPairs-flat_map S R f xs (AllPairs-tail S a xs pairs) (All-tail P a xs each) across)
    (All-weaker (Contains (f a)) Q
    (λ x in'. All-flat_map (R x) f xs (λ b at. All-weaker (Contains (f b)) (R x) (λ y on. across a b (All-contains (S a) xs b (AllPairs-head S a xs pairs) at) x y in' on) (f b) (All-contains_itself (f b))))
    (f a) (All-contains_itself (f a)))
