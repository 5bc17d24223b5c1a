-- The best path.
use Rattle.std.proofs.Common.{ℕ, ◌<◌, ◌≡◌, List, [], ◌∷◌, length, get_or, Bool, true, false, not, ◌&&◌, ◌||◌, inl, inr, sym, ◌∙◌, arith, Contains}
use Rattle.std.specs.Cmp.{IsStrictWeakOrder}
use Rattle.std.specs.List.{best_of, list_all}
use Rattle.std.proofs.lemmas.Bool.{true≢false, and_parts, or_cases, not-true}
use Rattle.std.proofs.lemmas.List.{get_or_default}
use Rattle.std.proofs.lemmas.List.MinMax.{IsFirstBest-from_best_of}
use Rattle.search_model.specs.Problem.{Problem}
use Rattle.search_model.specs.Legal.{walks}
use Rattle.search_model.specs.Order.{smaller, better, standing_of, IsBest}
use Rattle.search_model.specs.Laws.{OneBest}
use Rattle.list_laws.proofs.Members.{Contains-some, list_all-contains}
use Rattle.search_model.proofs.WalkLemmas.{some_walk, path_listed, listed_path}
use Rattle.search_model.proofs.Orders.{better_order, better_total, better_one_way, same_or_differ, same_from_neither}

-- of some elements one is beaten by none
pub unbeaten : {X : Type 0} (beats : X → X → Bool) → IsStrictWeakOrder beats → (xs : List X) → 0 < length xs → (x : X) × Contains xs x × ((y : X) → Contains xs y → beats y x ≡ false)
unbeaten beats order [] some = absurd (omega (arith, some))
unbeaten beats order (a ∷ xs) some =
    let first = IsFirstBest-from_best_of order a xs in
    let x = best_of beats a xs in
    let at : (d : _) → get_or (a ∷ xs) first.0 d ≡ x = λ d. get_or_default (a ∷ xs) first.0 d a first.1.0 ∙ first.2 in (
      x,
      (first.0, first.1.0, at x),
      λ y h.
          let unbeaten_at = first.1.1 h.0 y h.1 in
          rw h.2 at (rw (at y) at unbeaten_at),
    )

-- the order of paths by their standings
pub by_standing : (p : Problem) → IsStrictWeakOrder (λ q r. better (standing_of p q) (standing_of p r))
by_standing p = record {
  one_way = λ q r h. better_order.one_way (standing_of p q) (standing_of p r) h;
  chain = λ q r s h g. better_order.chain (standing_of p q) (standing_of p r) (standing_of p s) h g;
}

-- two best paths would be better than each other
pub best_is_one : (p : Problem) (q r : List ℕ) → IsBest p q → IsBest p r → r ≡ q
best_is_one p q r best other = elim (same_or_differ r q) [
  | inl e ↦ e
  | inr differ ↦ absurd (true≢false (sym (other.better q best.path (λ e. differ (sym e))) ∙ better_one_way (standing_of p q) (standing_of p r) (best.better r other.path differ)))
]

pub one_best : OneBest
one_best p sound =
    let walk = some_walk p.moves sound.grid p.horizon p.start (omega (arith, sound.start, sound.grid_positions)) in
    let listed = path_listed p walk.0 (record { follows = walk.1; whole = walk.2 }) in
    let found = unbeaten _ (by_standing p) (walks p.moves p.horizon p.start) (Contains-some _ walk.0 listed) in
    let best : IsBest p found.0 = record {
      path = listed_path p found.0 found.1;
      better = λ r path differ. better_total (standing_of p found.0) (standing_of p r) (λ e. differ (sym e)) (found.2 r (path_listed p r path));
    } in
    (found.0, best, λ r other. best_is_one p found.0 r best other)

-- whether a path is this one, or worse
abbrev pub is_it_or_worse : Problem → List ℕ → List ℕ → Bool
is_it_or_worse p q r = (not (smaller q r) && not (smaller r q)) || better (standing_of p q) (standing_of p r)

-- a path is best where each walk from the start is that path or worse
pub best_by_test : (p : Problem) (q : List ℕ) → Contains (walks p.moves p.horizon p.start) q → list_all (is_it_or_worse p q) (walks p.moves p.horizon p.start) ≡ true → IsBest p q
best_by_test p q listed all = record {
  path = listed_path p q listed;
  better = λ r other differ.
      elim (or_cases _ _ (list_all-contains (is_it_or_worse p q) (walks p.moves p.horizon p.start) r all (path_listed p r other))) [
        | inl same ↦ let parts = and_parts _ _ same in absurd (differ (sym (same_from_neither q r (not-true _ parts.0) (not-true _ parts.1))))
        | inr h ↦ h
      ];
}
