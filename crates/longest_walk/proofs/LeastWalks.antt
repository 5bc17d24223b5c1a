-- The least walk of the greatest sum.
use Rattle.std.proofs.Common.{ℕ, suc, ◌+◌, ◌≤◌, ◌<◌, ◌≡◌, false, List, [], ◌∷◌, map, length, inl, inr, sym, refl, ap, ◌∙◌, subst, arith, Contains, Equal, Greater}
use Rattle.std.specs.Cmp.{nat_cmp_is}
use Rattle.std.proofs.lemmas.Bool.{cases_order}
use Rattle.search_grid.specs.Moves.{moves_from, IsGrid}
use Rattle.search_model.specs.Legal.{walks}
use Rattle.search_model.specs.Bounds.{sum_along, greatest}
use Rattle.search_model.specs.Order.{smaller}
use Rattle.list_laws.proofs.Members.{Contains-nil, Contains-head, Contains-cons_cases, Contains-map}
use Rattle.search_model.proofs.WalkLemmas.{walk_listed, listed_walk}
use Rattle.search_model.specs.Reference.{greatest_sum, IsLeastBest}
use Rattle.search_model.proofs.Greatest.{greatest_above}
use Rattle.longest_walk.proofs.Steps.{sum_through, greatest_sum-zero, greatest_sum-suc}
use Rattle.search_model.proofs.LeastBest.{sum_along-cons, sum_along-below}

-- the empty walk is the only one of no positions
pub IsLeastBest-nil : (rows : List (List ℕ)) (r : ℕ → ℕ → ℕ) (t a : ℕ) → IsLeastBest rows r 0 t a []
unfolding walks sum_along
IsLeastBest-nil rows r t a = record {
  walk = Contains-head [] [];
  best = sym (greatest_sum-zero rows r t a);
  least = λ z listed is. elim (Contains-cons_cases [] z [] listed) [ inl e ↦ ap (λ y. smaller y []) (sym e) | inr k ↦ absurd (Contains-nil z k) ];
}

-- the first position decides, and at the same first position the rest
not_smaller-cons : (e d : ℕ) (z y : List ℕ) → d ≤ e → (e ≡ d → smaller z y ≡ false) → smaller (e ∷ z) (d ∷ y) ≡ false
not_smaller-cons e d z y le rest = elim (cases_order e d) [
  | inl same ↦ rw (sym (nat_cmp_is e d Equal same)) (rest same)
  | inr apart ↦ (let above : d < e = omega (arith, le, apart) in rw (sym (nat_cmp_is e d Greater above)) refl)
]

-- the least of the first moves that have the greatest sum, and then the least walk of the greatest sum from there
pub IsLeastBest-cons : (rows : List (List ℕ)) → IsGrid rows → (r : ℕ → ℕ → ℕ) (n t a d : ℕ) (y : List ℕ) → a < length rows →
    Contains (moves_from rows a) d →
    sum_through rows r n t d ≡ greatest (map (sum_through rows r n t) (moves_from rows a)) →
    ((e : ℕ) → Contains (moves_from rows a) e → sum_through rows r n t e ≡ greatest (map (sum_through rows r n t) (moves_from rows a)) → d ≤ e) →
    IsLeastBest rows r n (t + 1) d y → IsLeastBest rows r (suc n) t a (d ∷ y)
IsLeastBest-cons rows grid r n t a d y here move best least rest = record {
  walk = let known = listed_walk rows n d y rest.walk in walk_listed rows (suc n) a (d ∷ y) (move, known.0) (ap suc known.1);
  best = sum_along-cons r t d y ∙ ap (λ v. r t d + v) rest.best ∙ best ∙ sym (greatest_sum-suc rows grid r n t a here);
  least = λ z listed is. let known = listed_walk rows (suc n) a z listed in others z known.0 known.1 (is ∙ greatest_sum-suc rows grid r n t a here);
}
  where
    top : ℕ
    top = greatest (map (sum_through rows r n t) (moves_from rows a))

    others : (z : List ℕ) → Rattle.search_model.specs.Legal.Follows rows a z → length z ≡ suc n → sum_along r t z ≡ top → smaller z (d ∷ y) ≡ false
    others [] follows long is = cc
    others (e ∷ z) follows long is =
        let listed : Contains (walks rows n e) z = walk_listed rows n e z follows.1 (cc) in
        let rest_below = sum_along-below rows r n (t + 1) e z listed in
        let below = greatest_above (map (sum_through rows r n t) (moves_from rows a)) (sum_through rows r n t e) (Contains-map (sum_through rows r n t) (moves_from rows a) e follows.0) in
        let parts = sum_along-cons r t e z in
        let by_e : sum_through rows r n t e ≡ top = omega (arith, rest_below, below, parts, is) in
        let on : sum_along r (t + 1) z ≡ greatest_sum rows r n (t + 1) e = omega (arith, parts, is, by_e) in
        not_smaller-cons e d z y (least e follows.0 by_e)
        (λ same. rest.least z (subst (λ x. Contains (walks rows n x) z) same listed) (subst (λ x. sum_along r (t + 1) z ≡ greatest_sum rows r n (t + 1) x) same on))
