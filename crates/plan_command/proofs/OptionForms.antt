-- What is read of the options of a command is what they say.
use Rattle.std.proofs.Common.{ℕ, ◌≡◌, ◌≤◌, ◌<◌, ◌^◌, ◌⊎◌, Bool, true, false, List, [], ◌∷◌, ◌++◌, Option, Some, None, take, drop, inl, inr, refl, sym, ap, ◌∙◌, subst, arith, codes}
use Rattle.std.specs.Str.{bytes_eq}
use Rattle.std.specs.Fmt.{decimal}
use Rattle.std.specs.List.{list_all}
use Rattle.std.specs.Option.{option_map}
use Rattle.std.specs.Prelude.{nat_le, not, if◌then◌else◌}
use Rattle.std.proofs.lemmas.Bool.{cond_both}
use Rattle.std.proofs.lemmas.Bool.Decides.{leb_tells}
use Rattle.std.proofs.lemmas.List.{take-append-drop}
use Rattle.std.proofs.lemmas.List.Folds.{list_all-append}
use Rattle.std.proofs.lemmas.Slice.Eq.{bytes_eq-Decides}
use Rattle.exact_parts.specs.declared.number.Number.{Number}
use Rattle.exact_parts.specs.declared.number.Number.TheVariants.{NotPlain, Above, Of}
use Rattle.exact_parts.specs.Decimal.{Spells as SpellsNumber, number_at, is_plain}
use Rattle.exact_parts.proofs.Decimals.{spells-number_at, spelled_text, number_at-decimal, plain-decimal}
use Rattle.plan_command.specs.Options.{IsOption, AreOptions}
use Rattle.plan_command.specs.WordReading.{at_least, number_within, of_both, option_at, workers_at, nodes_at, begins_with, options_at}
use Rattle.plan_command.specs.declared.request.TheConstants.{WORKERS, MOST_WORKERS}

pub some_tells : {X : Type 0} (x y : X) → Some x ≡ Some y → x ≡ y
some_tells x y e = cc

pub none_of_some : {X : Type 0} (x : X) → None ≡ Some x → ⊥
none_of_some x e = let bad : ⊥ = cc in bad

-- a word that passes the test is that word
pub is_that : (w name : List ℕ) → bytes_eq w name ≡ true → w ≡ name
is_that w name e = (bytes_eq-Decides w name).0 e

-- the number within limits that a word spells
pub record IsNumber (least most : ℕ) (word : List ℕ) (n : ℕ) : Type 0 where
  pub text : word ≡ decimal n
  pub low : least ≤ n
  pub high : n ≤ most

at_least_tells : (least n m : ℕ) (t : Bool) → ((t ≡ true) × (least ≤ n)) ⊎ ((t ≡ false) × (n < least)) → (if t then Some n else None) ≡ Some m → (n ≡ m) × (least ≤ n)
at_least_tells least n m true (inl h) e = (some_tells n m e, h.1)
at_least_tells least n m true (inr h) e = absurd (let bad = h.0 in cc)
at_least_tells least n m false (inl h) e = absurd (let bad = h.0 in cc)
at_least_tells least n m false (inr h) e = absurd (none_of_some m e)

within_tells : (least most n : ℕ) (word : List ℕ) (number : Number) → most < 2 ^ 128 → SpellsNumber most word number → at_least least number ≡ Some n → IsNumber least most word n
within_tells least most n word NotPlain wide spells e = absurd (none_of_some n e)
within_tells least most n word Above wide spells e = absurd (none_of_some n e)
within_tells least most n word (Of m) wide spells e =
    let told = at_least_tells least m n (nat_le least m) (leb_tells least m) e in
    subst (IsNumber least most word) told.0 (record { text = spelled_text most m word wide spells; low = told.1; high = spells.2 })

pub number_tells : (least most n : ℕ) (word : List ℕ) → most < 2 ^ 128 → number_within least most word ≡ Some n → IsNumber least most word n
number_tells least most n word wide e = within_tells least most n word (number_at most word) wide (spells-number_at most word) e

at_least_of : (least n : ℕ) (t : Bool) → ((t ≡ true) × (least ≤ n)) ⊎ ((t ≡ false) × (n < least)) → least ≤ n → (if t then Some n else None) ≡ Some n
at_least_of least n true h low = refl
at_least_of least n false (inl h) low = absurd (let bad = h.0 in cc)
at_least_of least n false (inr h) low = absurd (omega (arith, h.1, low))

pub number_of_text : (least most n : ℕ) → most < 2 ^ 128 → least ≤ n → n ≤ most → number_within least most (decimal n) ≡ Some n
number_of_text least most n wide low high =
    ap (at_least least) (number_at-decimal most n high wide) ∙ at_least_of least n (nat_le least n) (leb_tells least n) low

-- what is made of values that are there
pub mapped_tells : {X Y : Type 0} (f : X → Y) (o : Option X) (y : Y) → option_map f o ≡ Some y → (x : X) × (o ≡ Some x) × (f x ≡ y)
mapped_tells f (Some x) y e = (x, refl, some_tells (f x) y e)
mapped_tells f None y e = absurd (none_of_some y e)

pub both_tell : {X Y Z : Type 0} (make : X → Y → Z) (o : Option X) (q : Option Y) (z : Z) → of_both make o q ≡ Some z → (x : X) × (y : Y) × (o ≡ Some x) × (q ≡ Some y) × (make x y ≡ z)
both_tell make (Some x) q z e = let told = mapped_tells (make x) q z e in (x, told.0, refl, told.1, told.2)
both_tell make None q z e = absurd (none_of_some z e)

pub both_read : {X Y Z : Type 0} (make : X → Y → Z) (o : Option X) (q : Option Y) (x : X) (y : Y) → o ≡ Some x → q ≡ Some y → of_both make o q ≡ Some (make x y)
both_read make o q x y first second = rw (first, second) refl

pub two_words : (a b x y : List ℕ) → a ≡ x → b ≡ y → a ∷ b ∷ [] ≡ x ∷ y ∷ []
two_words a b x y e f = ap (λ (z : List ℕ). z ∷ b ∷ []) e ∙ ap (λ (z : List ℕ). x ∷ z ∷ []) f

-- one option
option_tells : (name : List ℕ) (most default n : ℕ) (words : List (List ℕ)) → most < 2 ^ 128 → option_at name most default words ≡ Some n → IsOption name most default n words
option_tells name most default n [] wide e = inl (refl, sym (some_tells default n e))
option_tells name most default n (word ∷ []) wide e = absurd (none_of_some n e)
option_tells name most default n (word ∷ value ∷ []) wide e =
    cond_both (bytes_eq word name) _ _ (λ (o : Option ℕ). o ≡ Some n → IsOption name most default n (word ∷ value ∷ []))
    (λ is e. let number = number_tells 1 most n value wide e in inr (two_words _ _ _ _ (is_that word name is) number.text, number.low, number.high))
    (λ other e. absurd (none_of_some n e)) e
option_tells name most default n (word ∷ value ∷ more ∷ words) wide e = absurd (none_of_some n e)

-- both, in either order
pub options_tell : (most workers nodes : ℕ) (words : List (List ℕ)) → most < 2 ^ 128 → options_at most words ≡ Some (workers, nodes) → AreOptions most workers nodes words
unfolding options_at
options_tell most workers nodes words wide e =
    let P : ℕ × ℕ → Type 0 = λ o. AreOptions most o.0 o.1 words in
    cond_both (begins_with (codes "--nodes") words) _ _ (λ (o : Option (ℕ × ℕ)). o ≡ Some (workers, nodes) → AreOptions most workers nodes words)
    (λ is e.
    let told = both_tell (λ n w. (w, n)) (nodes_at most (take 2 words)) (workers_at (drop 2 words)) (workers, nodes) e in
    subst P told.4
    (drop 2 words, take 2 words, option_tells _ MOST_WORKERS WORKERS told.1 (drop 2 words) (omega arith) told.3, option_tells _ most most told.0 (take 2 words) wide told.2, inr (sym (take-append-drop 2 words))))
    (λ other e.
    let told = both_tell (λ w n. (w, n)) (workers_at (take 2 words)) (nodes_at most (drop 2 words)) (workers, nodes) e in
    subst P told.4
    (take 2 words, drop 2 words, option_tells _ MOST_WORKERS WORKERS told.0 (take 2 words) (omega arith) told.2, option_tells _ most most told.1 (drop 2 words) wide told.3, inl (sym (take-append-drop 2 words)))) e

workers_read : (n : ℕ) → 1 ≤ n → n ≤ MOST_WORKERS → workers_at (codes "--workers" ∷ decimal n ∷ []) ≡ Some n
workers_read n low high = number_of_text 1 MOST_WORKERS n (omega arith) low high

nodes_read : (most n : ℕ) → most < 2 ^ 128 → 1 ≤ n → n ≤ most → nodes_at most (codes "--nodes" ∷ decimal n ∷ []) ≡ Some n
nodes_read most n wide low high = number_of_text 1 most n wide low high

pub options_read : (most workers nodes : ℕ) (words : List (List ℕ)) → most < 2 ^ 128 → AreOptions most workers nodes words → options_at most words ≡ Some (workers, nodes)
unfolding options_at
options_read most w n words wide (crew, limit, inl (out, four), inl (none, all), inl is) = rw (is, out, none, four, all) refl
options_read most w n words wide (crew, limit, inl (out, four), inl (none, all), inr is) = rw (is, out, none, four, all) refl
options_read most w n words wide (crew, limit, inl (out, four), inr (it, low, high), inl is) = rw (is, out, it, four) (both_read (λ n w. (w, n)) _ _ n WORKERS (nodes_read most n wide low high) refl)
options_read most w n words wide (crew, limit, inl (out, four), inr (it, low, high), inr is) = rw (is, out, it, four) (both_read (λ n w. (w, n)) _ _ n WORKERS (nodes_read most n wide low high) refl)
options_read most w n words wide (crew, limit, inr (it, low, high), inl (none, all), inl is) = rw (is, it, none, all) (both_read (λ w n. (w, n)) _ _ w most (workers_read w low high) refl)
options_read most w n words wide (crew, limit, inr (it, low, high), inl (none, all), inr is) = rw (is, it, none, all) (both_read (λ w n. (w, n)) _ _ w most (workers_read w low high) refl)
options_read most w n words wide (crew, limit, inr (it, low, high), inr (that, least, greatest), inl is) =
    rw (is, it, that) (both_read (λ w n. (w, n)) _ _ w n (workers_read w low high) (nodes_read most n wide least greatest))
options_read most w n words wide (crew, limit, inr (it, low, high), inr (that, least, greatest), inr is) =
    rw (is, it, that) (both_read (λ n w. (w, n)) _ _ n w (nodes_read most n wide least greatest) (workers_read w low high))

-- the words of options aren't a word that is no number and neither of their names
abbrev pub Lacks : List ℕ → List (List ℕ) → Type 0
Lacks name words = list_all (λ word. not (bytes_eq word name)) words ≡ true

other_word : (word name : List ℕ) (t : Bool) → bytes_eq word name ≡ t → (word ≡ name → ⊥) → bytes_eq word name ≡ false
other_word word name true e differ = absurd (differ (is_that word name e))
other_word word name false e differ = e

no_decimal : (n : ℕ) (name : List ℕ) → n < 2 ^ 128 → is_plain name ≡ false → bytes_eq (decimal n) name ≡ false
no_decimal n name small plain = other_word (decimal n) name _ refl (λ e. let bad : true ≡ false = sym (plain-decimal n small) ∙ ap is_plain e ∙ plain in let none : ⊥ = cc in none)

option_lacks : (name it : List ℕ) (most default n : ℕ) (words : List (List ℕ)) → most < 2 ^ 128 → is_plain it ≡ false → bytes_eq name it ≡ false → IsOption name most default n words → Lacks it words
option_lacks name it most default n words wide plain differ (inl (is, same)) = rw is refl
option_lacks name it most default n words wide plain differ (inr (is, low, high)) = rw (is, differ, no_decimal n it (omega (arith, wide, high)) plain) refl

lacks_both : (it : List ℕ) (xs ys : List (List ℕ)) → Lacks it xs → Lacks it ys → Lacks it (xs ++ ys)
lacks_both it xs ys first second = rw (list_all-append (λ word. not (bytes_eq word it)) xs ys, first, second) refl

pub options_lack : (it : List ℕ) (most workers nodes : ℕ) (words : List (List ℕ)) → most < 2 ^ 128 → is_plain it ≡ false → bytes_eq (codes "--workers") it ≡ false → bytes_eq (codes "--nodes") it ≡ false →
    AreOptions most workers nodes words → Lacks it words
options_lack it most w n words wide plain workers nodes (crew, limit, a, b, inl is) = rw is (lacks_both it crew limit (option_lacks _ it _ _ w crew (omega arith) plain workers a) (option_lacks _ it _ _ n limit wide plain nodes b))
options_lack it most w n words wide plain workers nodes (crew, limit, a, b, inr is) = rw is (lacks_both it limit crew (option_lacks _ it _ _ n limit wide plain nodes b) (option_lacks _ it _ _ w crew (omega arith) plain workers a))

-- and no `--nodes` is among them where there may be none
pub no_nodes : (workers nodes : ℕ) (words : List (List ℕ)) → AreOptions 0 workers nodes words → nodes ≡ 0
no_nodes w n words (crew, limit, a, inl (none, all), order) = all
no_nodes w n words (crew, limit, a, inr (it, low, high), order) = absurd (omega (arith, low, high))
