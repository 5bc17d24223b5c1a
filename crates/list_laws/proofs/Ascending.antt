-- Lists that ascend by a key.
use Rattle.std.proofs.Common.{ℕ, zero, suc, ◌<◌, ◌≤◌, ◌≡◌, ◌≢◌, ◌==◌, ◌∙◌, if◌then◌else◌, List, [], ◌∷◌, length, get_or, map, refl, sym, arith, sum_by, All, AllPairs, Ok, Err, inl, inr, ◌+◌, Bool, true, false, not, ltb, MatchBool, add-one, ap, count_by, Contains, ◌⊎◌}
use Rattle.std.proofs.Math.ListN.{length-map, get_or-map}
use Rattle.std.specs.List.Sorted.{IsStrictlyIncreasing, IsNonDecreasingBy, IsBinarySearchResult}
use Rattle.std.specs.Ordering.{nat_cmp, ordering_index}
use Rattle.std.specs.declared.cmp.Ordering.TheVariants.{Less, Equal, Greater}
use Rattle.std.proofs.lemmas.Bool.{cases_lt, eq-eqb, ne_eqb, cases_eq}
use Rattle.std.proofs.lemmas.Bool.Decides.{nat_tests}
use Rattle.std.proofs.lemmas.Cmp.{ranked}
use Rattle.std.proofs.lemmas.List.{get_or-map as get_or_map}
use Rattle.std.proofs.lemmas.List.Kept.{AllPairs-from_increasing}
use Rattle.std.proofs.lemmas.List.Elements.{All-head, All-tail, All-weaker, All-contains}
use Rattle.std.proofs.lemmas.List.Sums.{sum_by-cons}
use borrow.Author.Tests.{ltb-true, ltb-false}
use Rattle.std.specs.List.{IsAllAdjacentAnswer}
use Rattle.list_laws.proofs.Members.{Contains-tail}

-- each key is below all later ones
abbrev pub Ascends : {X : Type 0} → (X → ℕ) → List X → Type 0
Ascends key xs = AllPairs (λ x y. key x < key y) xs

pub Ascends-from_keys : {X : Type 0} (key : X → ℕ) (xs : List X) → IsStrictlyIncreasing (map key xs) → Ascends key xs
Ascends-from_keys key xs up i j d before inside =
    let within : j < length (map key xs) = rw (length-map xs key) inside in
    let far = AllPairs-from_increasing (map key xs) up i j (key d) before within in
    rw (get_or-map key xs i d, get_or-map key xs j d) at far

pub Ascends-tail : {X : Type 0} (key : X → ℕ) (x : X) (xs : List X) → Ascends key (x ∷ xs) → Ascends key xs
Ascends-tail key x xs up i j d before inside = up (suc i) (suc j) d (omega arith) (omega arith)

pub Ascends-head : {X : Type 0} (key : X → ℕ) (x : X) (xs : List X) → Ascends key (x ∷ xs) → All (λ y. key x < key y) xs
Ascends-head key x xs up k d inside = up 0 (suc k) d (omega arith) (omega arith)

-- what f gives at the elements of one key sums to nothing where no element has it
pub sum_at-none : {X : Type 0} (key f : X → ℕ) (q : ℕ) (xs : List X) → All (λ y. key y ≢ q) xs → sum_by (λ y. if key y == q then f y else 0) xs ≡ 0
sum_at-none key f q [] none = refl
sum_at-none {X} key f q (x ∷ xs) none =
    let P : X → Type 0 = λ y. key y ≢ q in
    let rest = sum_at-none key f q xs (All-tail P x xs none) in
    sum_by-cons (λ y. if key y == q then f y else 0) x xs ∙ rw (ne_eqb (key x) q (All-head P x xs none), rest) (omega arith)

-- and to what f gives at the element that has it, where the list ascends
pub sum_at-one : {X : Type 0} (key f : X → ℕ) (xs : List X) (k : ℕ) (d : X) → Ascends key xs → k < length xs →
    sum_by (λ y. if key y == key (get_or xs k d) then f y else 0) xs ≡ f (get_or xs k d)
sum_at-one key f [] k d up inside = absurd (omega arith)
sum_at-one {X} key f (x ∷ xs) zero d up inside =
    let above = All-weaker (λ y. key x < key y) (λ y. key y ≢ key x) (λ y lt same. omega arith) xs (Ascends-head key x xs up) in
    sum_by-cons (λ y. if key y == key x then f y else 0) x xs ∙ rw (eq-eqb (key x) (key x) refl, sum_at-none key f (key x) xs above) (omega arith)
sum_at-one {X} key f (x ∷ xs) (suc k) d up inside =
    let q = key (get_or xs k d) in
    let below : key x < q = Ascends-head key x xs up k d (omega arith) in
    let apart : key x ≢ q = λ same. omega arith in
    sum_by-cons (λ y. if key y == q then f y else 0) x xs ∙ rw (ne_eqb (key x) q apart, sum_at-one key f xs k d (Ascends-tail key x xs up) (omega arith)) (omega arith)

-- comparisons with one number rise as the keys do
index_rises : (a b q : ℕ) → a ≤ b → ordering_index (nat_cmp a q) ≤ ordering_index (nat_cmp b q)
index_rises a b q le = grind (arith, nat_tests)

pub comparisons_rise : {X : Type 0} (key : X → ℕ) (q : ℕ) (xs : List X) → Ascends key xs → IsNonDecreasingBy (λ y. ordering_index (nat_cmp (key y) q)) xs
comparisons_rise key q xs up i j d le inside =
    index_rises (key (get_or xs i d)) (key (get_or xs j d)) q (elim (cases_lt i j) [
      | inl before ↦ let below = up i j d before inside in omega arith
      | inr after ↦ let same : i ≡ j = omega arith in rw same (omega arith)
    ])

-- where a binary search finds no place, no element has the key
pub absent_from_search : {X : Type 0} (key : X → ℕ) (q at : ℕ) (xs : List X) → Ascends key xs → IsBinarySearchResult (λ y. nat_cmp (key y) q) xs (Err at) → All (λ y. key y ≢ q) xs
absent_from_search key q at xs up parted k d inside same =
    let parts = parted (comparisons_rise key q xs up) in
    elim (cases_lt k at) [
      | inl before ↦ let less = ranked (key (get_or xs k d)) q Less (sym (parts.0 k d (omega arith) before)) in omega (arith, less)
      | inr after ↦ let more = ranked (key (get_or xs k d)) q Greater (sym (parts.1 k d after inside)) in omega (arith, more)
    ]

-- where it finds one, that element has it
pub found_from_search : {X : Type 0} (key : X → ℕ) (q at : ℕ) (xs : List X) (d : X) → IsBinarySearchResult (λ y. nat_cmp (key y) q) xs (Ok at) → key (get_or xs at d) ≡ q
found_from_search key q at xs d equal = ranked (key (get_or xs at d)) q Equal (sym (equal d))

-- one element at most has a key, where the list ascends
pub count_at-le : {X : Type 0} (key : X → ℕ) (q : ℕ) (xs : List X) → Ascends key xs → count_by (λ y. key y == q) xs ≤ 1
count_at-le key q [] up = omega arith
count_at-le {X} key q (x ∷ xs) up =
    let step = sum_by-cons (λ y. if key y == q then 1 else 0) x xs in
    elim (cases_eq (key x) q) [
      | inl same ↦
          let above = All-weaker (λ y. key x < key y) (λ y. key y ≢ q) (λ y lt equal. omega arith) xs (Ascends-head key x xs up) in
          rw (step, eq-eqb (key x) q same, sum_at-none key (λ _. 1) q xs above) (omega arith)
      | inr apart ↦ rw (step, ne_eqb (key x) q apart) (omega (arith, count_at-le key q xs (Ascends-tail key x xs up)))
    ]

-- and two do, where two neighbours share it
pub double-from_neighbours : {X : Type 0} (key : X → ℕ) (xs : List X) (k : ℕ) (d : X) → suc k < length xs → key (get_or xs (suc k) d) ≡ key (get_or xs k d) →
    1 < count_by (λ y. key y == key (get_or xs k d)) xs
double-from_neighbours key [] k d inside same = absurd (omega arith)
double-from_neighbours key (x ∷ []) k d inside same = absurd (omega arith)
double-from_neighbours {X} key (x ∷ y ∷ ys) zero d inside same =
    let f : X → ℕ = λ z. if key z == key x then 1 else 0 in
    rw (sum_by-cons f x (y ∷ ys), sum_by-cons f y ys, eq-eqb (key x) (key x) refl, eq-eqb (key y) (key x) same) (omega arith)
double-from_neighbours {X} key (x ∷ y ∷ ys) (suc k) d inside same =
    let f : X → ℕ = λ z. if key z == key (get_or (y ∷ ys) k d) then 1 else 0 in
    rw (sum_by-cons f x (y ∷ ys)) (omega (arith, double-from_neighbours key (y ∷ ys) k d (omega arith) same))

-- whether a list whose keys don't fall ascends, or a key stands in it twice
pub double_or_ascends : {X : Type 0} (key : X → ℕ) (xs : List X) (r : Bool) (d : X) → IsNonDecreasingBy key xs → IsAllAdjacentAnswer (λ x y b. b ≡ ltb (key x) (key y)) xs r →
    MatchBool (not r) ((q : ℕ) × (1 < count_by (λ y. key y == q) xs)) ((k : ℕ) → k + 1 < length xs → key (get_or xs k d) < key (get_or xs (k + 1) d))
double_or_ascends key xs true d up below = λ k inside. ltb-true (key (get_or xs k d)) (key (get_or xs (k + 1) d)) (sym (below k d inside))
double_or_ascends key xs false d up falls =
    let k = falls.0 in
    let next : suc k < length xs = omega (arith, falls.1) in
    let above : key (get_or xs (k + 1) d) ≤ key (get_or xs k d) = ltb-false _ _ (sym (falls.2 d)) in
    let not_below = up k (k + 1) d (omega arith) falls.1 in
    let same : key (get_or xs (suc k) d) ≡ key (get_or xs k d) = rw (← add-one k) (omega arith) in
    (key (get_or xs k d), double-from_neighbours key xs k d next same)

-- keys that rise from each element to the next are strictly increasing
keys_rise : {X : Type 0} (key : X → ℕ) (xs : List X) (d : X) → ((k : ℕ) → k + 1 < length xs → key (get_or xs k d) < key (get_or xs (k + 1) d)) → IsStrictlyIncreasing (map key xs)
keys_rise key xs d up k inside =
    let next : k + 1 < length xs = omega (arith, length-map xs key) in
    let here : k < length xs = omega arith in
    rw (get_or_map key xs k d 0 here, get_or_map key xs (k + 1) d 0 next) (up k next)

pub double_or_keys_rise : {X : Type 0} (key : X → ℕ) (xs : List X) (r : Bool) (d : X) → IsNonDecreasingBy key xs → IsAllAdjacentAnswer (λ x y b. b ≡ ltb (key x) (key y)) xs r →
    MatchBool (not r) ((q : ℕ) × (1 < count_by (λ y. key y == q) xs)) (IsStrictlyIncreasing (map key xs))
double_or_keys_rise key xs true d up answer = keys_rise key xs d (double_or_ascends key xs true d up answer)
double_or_keys_rise key xs false d up answer = double_or_ascends key xs false d up answer

-- an element of an ascending list is its head, or above it
head_or_above : {X : Type 0} (key : X → ℕ) (x y : X) (ys : List X) → Ascends key (y ∷ ys) → (k : ℕ) → k < length (y ∷ ys) → get_or (y ∷ ys) k x ≡ x → (x ≡ y) ⊎ (key y < key x)
head_or_above key x y ys up zero inside is = inl (sym is)
head_or_above key x y ys up (suc k) inside is = let above = Ascends-head key y ys up k x (omega arith) in inr (rw is at above)

-- what is above the head stands in the rest
in_rest : {X : Type 0} (key : X → ℕ) (x y : X) (ys : List X) → key y < key x → (k : ℕ) → k < length (y ∷ ys) → get_or (y ∷ ys) k x ≡ x → Contains ys x
in_rest key x y ys above zero inside is = let same = ap key is in absurd (omega (arith, above, same))
in_rest key x y ys above (suc k) inside is = (k, omega arith, is)

-- what stands in the rest is above the head
above_head : {X : Type 0} (key : X → ℕ) (x z : X) (xs : List X) → Ascends key (x ∷ xs) → Contains xs z → key x < key z
above_head key x z xs up there = All-contains (λ y. key x < key y) xs z (Ascends-head key x xs up) there

-- two ascending lists with the same elements are the same
pub same_ascending : {X : Type 0} (key : X → ℕ) (xs ys : List X) → Ascends key xs → Ascends key ys →
    ((z : X) → Contains xs z → Contains ys z) → ((z : X) → Contains ys z → Contains xs z) → xs ≡ ys
same_ascending key [] [] up up' to fro = refl
same_ascending key [] (y ∷ ys) up up' to fro = let none = fro y (0, omega arith, refl) in absurd (omega (arith, none.1))
same_ascending key (x ∷ xs) [] up up' to fro = let none = to x (0, omega arith, refl) in absurd (omega (arith, none.1))
same_ascending key (x ∷ xs) (y ∷ ys) up up' to fro =
    let there = to x (0, omega arith, refl) in
    let back = fro y (0, omega arith, refl) in
    let head : x ≡ y = elim (head_or_above key x y ys up' there.0 there.1 there.2) [
      | inl same ↦ same
      | inr below ↦ elim (head_or_above key y x xs up back.0 back.1 back.2) [ inl same ↦ sym same | inr above ↦ absurd (omega arith) ]
    ] in
    let keys : key x ≡ key y = ap key head in
    let rest : xs ≡ ys = same_ascending key xs ys (Ascends-tail key x xs up) (Ascends-tail key y ys up')
    (λ z here. let above = above_head key x z xs up here in let w = to z (Contains-tail x z xs here) in in_rest key z y ys (omega (arith, above, keys)) w.0 w.1 w.2)
    (λ z here. let above = above_head key y z ys up' here in let w = fro z (Contains-tail y z ys here) in in_rest key z x xs (omega (arith, above, keys)) w.0 w.1 w.2) in
    cc
