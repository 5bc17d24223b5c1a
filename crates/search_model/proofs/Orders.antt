-- The order of lists and of standings.
use Rattle.std.proofs.Common.{ℕ, ◌<◌, ◌≤◌, ◌≡◌, ◌≢◌, ◌⊎◌, true, false, List, [], ◌∷◌, ◌++◌, inl, inr, sym, refl, ap, ◌∙◌, arith, Ordering, Less, Equal, Greater, nat_cmp, is_lt, ltb-false, lt-ltb, le-ltb, eq-eqb, ne_eqb}
use Rattle.std.specs.Cmp.{IsStrictWeakOrder, nat_cmp_is}
use Rattle.std.specs.Cmp.Lexicographic.{slice_cmp}
use Rattle.std.specs.Ordering.{ordering_reverse}
use Rattle.std.specs.FinMap.{slice_cmp-IsAntisymmetric, nat_cmp-IsAntisymmetric}
use Rattle.std.proofs.lemmas.Cmp.{nat_list_cmp_total, tied_itself}
use Rattle.std.proofs.lemmas.List.MinMax.{ranks_by}
use Rattle.std.proofs.lemmas.Bool.{or_parts, or_from, and_left, and_right, or_right, and_from, or_left, and_cases, true≢false, cases_order, cases_Bool}
use Rattle.search_model.specs.declared.standing.Standing.{Standing}
use Rattle.search_model.specs.Order.{smaller, better}

-- no list is smaller than itself
pub smaller_irreflexive : (p : List ℕ) → smaller p p ≡ false
smaller_irreflexive p = ap is_lt (tied_itself nat_list_cmp_total p)

lt_is : (o : Ordering) → is_lt o ≡ true → o ≡ Less
lt_is Less h = refl
lt_is Equal h = cc
lt_is Greater h = cc

-- smaller leads on
pub smaller_trans : (p q r : List ℕ) → smaller p q ≡ true → smaller q r ≡ true → smaller p r ≡ true
smaller_trans p q r h g = ap is_lt (nat_list_cmp_total.trans p q r (lt_is _ h) (lt_is _ g))

-- of two lists not both are smaller
pub smaller_one_way : (p q : List ℕ) → smaller p q ≡ true → smaller q p ≡ false
smaller_one_way p q h = ap is_lt (nat_list_cmp_total.antisymm q p ∙ ap ordering_reverse (lt_is _ h))

same_from : (p q : List ℕ) (o : Ordering) → slice_cmp nat_cmp p q ≡ o → smaller p q ≡ false → smaller q p ≡ false → p ≡ q
same_from p q Less e h g = absurd (true≢false (sym (ap is_lt e) ∙ h))
same_from p q Equal e h g = slice_cmp-IsAntisymmetric nat_cmp-IsAntisymmetric p q e
same_from p q Greater e h g = absurd (true≢false (sym (ap is_lt (nat_list_cmp_total.antisymm q p ∙ ap ordering_reverse e)) ∙ g))

-- lists of which neither is smaller are the same
pub same_from_neither : (p q : List ℕ) → smaller p q ≡ false → smaller q p ≡ false → p ≡ q
same_from_neither p q h g = same_from p q _ refl h g

-- of two different lists one is smaller
pub smaller_total : (p q : List ℕ) → p ≢ q → smaller q p ≡ false → smaller p q ≡ true
smaller_total p q differ h = elim (cases_Bool (smaller p q)) [ inl t ↦ t | inr f ↦ absurd (differ (same_from_neither p q f h)) ]

-- two lists are the same, or they differ
pub same_or_differ : (p q : List ℕ) → (p ≡ q) ⊎ (p ≢ q)
same_or_differ p q = elim (cases_Bool (smaller p q)) [
  | inl t ↦ inr (λ e. true≢false (sym t ∙ ap (λ r. smaller r q) e ∙ smaller_irreflexive q))
  | inr f ↦ elim (cases_Bool (smaller q p)) [
    | inl t ↦ inr (λ e. true≢false (sym t ∙ ap (smaller q) e ∙ smaller_irreflexive q))
    | inr g ↦ inl (same_from_neither p q f g)
  ]
]

pub smaller_order : IsStrictWeakOrder smaller
smaller_order = ranks_by nat_list_cmp_total (λ (p : List ℕ). p)

-- a common front doesn't matter
pub smaller_front : (p y z : List ℕ) → smaller (p ++ y) (p ++ z) ≡ smaller y z
smaller_front [] y z = refl
smaller_front (x ∷ p) y z = rw (sym (nat_cmp_is x x Equal refl)) (smaller_front p y z)

-- a prefix is smaller than what is longer
pub smaller_prefix : (p : List ℕ) (d : ℕ) (z : List ℕ) → smaller p (p ++ d ∷ z) ≡ true
smaller_prefix [] d z = refl
smaller_prefix (x ∷ p) d z = rw (sym (nat_cmp_is x x Equal refl)) (smaller_prefix p d z)

-- the first place of difference decides
pub smaller_at : (p : List ℕ) (d e : ℕ) (y z : List ℕ) → d < e → smaller (p ++ d ∷ y) (p ++ e ∷ z) ≡ true
smaller_at p d e y z less = smaller_front p (d ∷ y) (e ∷ z) ∙ rw (sym (nat_cmp_is d e Less less)) refl

-- what isn't better is of no greater value, and of the same value its path isn't smaller
pub not_better_parts : (s t : Standing) → better s t ≡ false → (s.value ≤ t.value) × (s.value ≡ t.value → smaller s.path t.path ≡ false)
not_better_parts s t h =
    let parts = or_parts _ _ h in
    (ltb-false t.value s.value parts.0, λ e. elim (and_cases _ _ parts.1) [ inl n ↦ absurd (true≢false (sym (eq-eqb s.value t.value e) ∙ n)) | inr f ↦ f ])

pub not_better_from : (s t : Standing) → s.value ≤ t.value → (s.value ≡ t.value → smaller s.path t.path ≡ false) → better s t ≡ false
not_better_from s t le f =
    or_from _ _ (le-ltb t.value s.value le) (elim (cases_order s.value t.value) [ inl e ↦ and_right _ _ (f e) | inr g ↦ and_left _ _ (ne_eqb s.value t.value (λ e. absurd (omega (arith, g, e)))) ])

-- a greater value is better
pub better_by_value : (s t : Standing) → t.value < s.value → better s t ≡ true
better_by_value s t less = or_left _ _ (lt-ltb t.value s.value less)

-- of the same value the smaller path is better
pub better_by_path : (s t : Standing) → s.value ≡ t.value → smaller s.path t.path ≡ true → better s t ≡ true
better_by_path s t e h = or_right _ _ (and_from _ _ (eq-eqb s.value t.value e) h)

-- no standing is better than itself
pub better_irreflexive : (s : Standing) → better s s ≡ false
better_irreflexive s = not_better_from s s (omega arith) (λ _. smaller_irreflexive s.path)

-- of standings with different paths one is better
pub better_total : (s t : Standing) → s.path ≢ t.path → better t s ≡ false → better s t ≡ true
better_total s t differ h =
    let facts = not_better_parts t s h in
    elim (cases_order t.value s.value) [
      | inl e ↦ better_by_path s t (sym e) (smaller_total s.path t.path differ (facts.1 e))
      | inr g ↦ better_by_value s t (omega (arith, facts.0, g))
    ]

better_chain : (s t u : Standing) → better s t ≡ false → better t u ≡ false → better s u ≡ false
better_chain s t u h g =
    let first = not_better_parts s t h in
    let second = not_better_parts t u g in
    not_better_from s u (omega (arith, first.0, second.0)) (λ e. smaller_order.chain s.path t.path u.path (first.1 (omega (arith, first.0, second.0, e))) (second.1 (omega (arith, first.0, second.0, e))))

-- of two standings not both are better
pub better_one_way : (s t : Standing) → better s t ≡ true → better t s ≡ false
better_one_way s t h = elim (cases_Bool (better t s)) [
  | inr f ↦ f
  | inl g ↦ absurd (let both : ⊥ = elim (cases_order s.value t.value) [
    | inl e ↦ elim (cases_Bool (smaller s.path t.path)) [
      | inl t' ↦ true≢false (sym g ∙ not_better_from t s (omega (arith, e)) (λ _. smaller_one_way s.path t.path t'))
      | inr f ↦ true≢false (sym h ∙ not_better_from s t (omega (arith, e)) (λ _. f))
    ]
    | inr o ↦ elim o [
      | inl lt ↦ true≢false (sym h ∙ not_better_from s t (omega (arith, lt)) (λ e. absurd (omega (arith, lt, e))))
      | inr gt ↦ true≢false (sym g ∙ not_better_from t s (omega (arith, gt)) (λ e. absurd (omega (arith, gt, e))))
    ]
  ] in both)
]

pub better_order : IsStrictWeakOrder better
better_order = record { one_way = better_one_way; chain = better_chain }
