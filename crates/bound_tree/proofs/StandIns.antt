-- Prefixes with another position in place of their last but one: when they stand in, and that one of them is the best.
use Rattle.std.proofs.Common.{ℕ, suc, ◌-◌, ◌≤◌, ◌≡◌, ◌≢◌, ◌⊎◌, Bool, true, ◌&&◌, cond, nat_eq, List, [], ◌∷◌, ◌++◌, length, take, slice_index, inl, inr, refl, sym, ap, subst, ◌∙◌, arith, IsTrue, Contains, length-append, append_assoc, ltb-true, eqb-true, eq-eqb}
use Rattle.std.specs.Cmp.{IsStrictWeakOrder}
use Rattle.std.specs.List.{list_any, flat_map}
use Rattle.std.proofs.Math.Seq.{take-length}
use Rattle.std.proofs.lemmas.Bool.{or_cases, or_left, or_right, and_parts, and_from, cond_both, true≢false, cases_order, cases_lt}
use Rattle.std.proofs.lemmas.List.{length-take-le}
use Rattle.std.proofs.lemmas.Map.Views.{Contains-from_any}
use Rattle.search_grid.specs.Moves.{moves_from}
use Rattle.search_model.specs.Problem.{Problem}
use Rattle.search_model.specs.Legal.{IsLegal, last_of, moves_after}
use Rattle.search_model.specs.Tracks.{value_of}
use Rattle.search_model.specs.Exchange.{exchange_of}
use Rattle.search_model.specs.Order.{smaller, better, standing_of}
use Rattle.search_model.proofs.Best.{unbeaten}
use Rattle.search_model.proofs.LegalLemmas.{last_of-push}
use Rattle.search_model.proofs.Orders.{better_order, better_total, smaller_at, smaller_irreflexive}
use Rattle.search_model.proofs.WalkLemmas.{follows-append, follows-take}
use Rattle.list_laws.proofs.Members.{Contains-nil, Contains-head, Contains-cons_cases, Contains-some, Contains-flat_map, Contains-flat_map_cases}
use Rattle.bound_tree.specs.Cut.{is_cut}
use Rattle.bound_tree.specs.Exchanges.{StandsIn, TakesPlace, IsBestStandIn, exchanged}

-- the last position of a list that has one
last_at : (a : ℕ) (q : List ℕ) → 1 ≤ length q → last_of a q ≡ slice_index q (length q - 1)
last_at a [] some = absurd (omega (arith, some))
last_at a (b ∷ []) some = refl
last_at a (b ∷ c ∷ q) some =
    let here : suc (suc (length q)) - 1 ≡ suc (length q) = omega arith in
    let before : suc (length q) - 1 ≡ length q = omega arith in
    rw here (rw before at (last_at b (c ∷ q) (omega arith)))

-- with its own position in that place a prefix is itself
exchanged-own : (q : List ℕ) → 2 ≤ length q → exchanged (slice_index q (length q - 2)) q ≡ q
exchanged-own [] long = absurd (omega (arith, long))
exchanged-own (a ∷ []) long = absurd (omega (arith, long))
exchanged-own (a ∷ b ∷ []) long = refl
exchanged-own (a ∷ b ∷ c ∷ q) long =
    let two : suc (suc (suc (length q))) - 2 ≡ suc (length q) = omega arith in
    let one : suc (suc (suc (length q))) - 1 ≡ suc (suc (length q)) = omega arith in
    let two_before : suc (suc (length q)) - 2 ≡ length q = omega arith in
    let one_before : suc (suc (length q)) - 1 ≡ suc (length q) = omega arith in
    rw (two, one) (ap (λ r. a ∷ r) (rw (two_before, one_before) at (exchanged-own (b ∷ c ∷ q) (omega arith))))

-- other positions make other prefixes
exchanged-differ : (q : List ℕ) (u v : ℕ) → v ≢ u → exchanged u q ≢ exchanged v q
exchanged-differ q u v other same =
    let front = take (length q - 2) q in
    let last = slice_index q (length q - 1) ∷ [] in
    elim (cases_order u v) [
      | inl e ↦ other (sym e)
      | inr (inl less) ↦ true≢false (sym (smaller_at front u v last last less) ∙ ap (λ r. smaller r (exchanged v q)) same ∙ smaller_irreflexive (exchanged v q))
      | inr (inr more) ↦ true≢false (sym (smaller_at front v u last last more) ∙ ap (smaller (exchanged v q)) same ∙ smaller_irreflexive (exchanged v q))
    ]

-- no prefix stands in for itself
none_for_itself : (p : Problem) (q : List ℕ) → ¬ StandsIn p q q
none_for_itself p q stands = elim (or_cases _ _ stands.cut) [
  | inl less ↦ let low = ltb-true (exchange_of p q q) (value_of p q) less in omega (arith, low)
  | inr level ↦ true≢false (sym (and_parts _ _ level).1 ∙ ap (λ r. smaller r q) (take-length q) ∙ smaller_irreflexive q)
]

module _ (p : Problem) (q : List ℕ) (long : 2 ≤ length q) (u : ℕ) where
  -- with another position it is as long
  pub exchanged-long : length (exchanged u q) ≡ length q
  exchanged-long =
      omega (arith, long, length-append (take (length q - 2) q) (u ∷ slice_index q (length q - 1) ∷ []), length-take-le (length q - 2) q (omega arith))

  -- and ends at the same place
  exchanged-last : last_of p.start (exchanged u q) ≡ last_of p.start q
  exchanged-last =
      let last = slice_index q (length q - 1) in
      ap (last_of p.start) (sym (append_assoc (take (length q - 2) q) (u ∷ []) (last ∷ [])))
      ∙ last_of-push p.start (take (length q - 2) q ++ u ∷ []) last
      ∙ sym (last_at p.start q (omega (arith, long)))

  -- so it stands in where it is legal and cuts the exchange bound
  pub exchanged-stands : IsLegal p (exchanged u q) → IsTrue (is_cut (exchange_of p q (exchanged u q)) q (standing_of p (exchanged u q))) → StandsIn p (exchanged u q) q
  exchanged-stands legal cut = record { legal = legal; long = exchanged-long; last = exchanged-last; cut = cut }

  -- where it is legal, the position is a move of the one before it
  pub exchanged-move : IsLegal p (exchanged u q) → Contains (moves_after p (take (length q - 2) q)) u
  exchanged-move legal = ((follows-append p.moves p.start (take (length q - 2) q) (u ∷ slice_index q (length q - 1) ∷ [])).0 legal.follows).1.0

  -- what stands in has another position there, and is legal
  pub stands-elsewhere : StandsIn p (exchanged u q) q → TakesPlace p q u
  stands-elsewhere stands = record {
    other = λ own. none_for_itself p q (subst (λ r. StandsIn p r q) (ap (λ v. exchanged v q) own ∙ exchanged-own q long) stands);
    legal = stands.legal;
  }

-- where a list has a number, the test for it finds it
pub finds : (b : ℕ) (xs : List ℕ) → Contains xs b → list_any (nat_eq b) xs ≡ true
finds b [] has = absurd (Contains-nil b has)
finds b (x ∷ xs) has = elim (Contains-cons_cases x b xs has) [
  | inl e ↦ or_left _ _ (eq-eqb b x (sym e))
  | inr later ↦ or_right _ _ (finds b xs later)
]

module _ (p : Problem) (q : List ℕ) (legal : IsLegal p q) (long : 2 ≤ length q) where
  -- the last position is a move of position u, and with u in place the prefix cuts the exchange bound
  stands_by : ℕ → Bool
  stands_by u =
      list_any (nat_eq (slice_index q (length q - 1))) (moves_from p.moves u) && is_cut (exchange_of p q (exchanged u q)) q (standing_of p (exchanged u q))

  -- the positions with which the prefix stands in for itself
  stand_ins : List ℕ
  stand_ins = flat_map (λ u. cond (stands_by u) (u ∷ []) []) (moves_after p (take (length q - 2) q))

  stand_in_listed : (u : ℕ) → StandsIn p (exchanged u q) q → Contains stand_ins u
  unfolding stand_ins stands_by
  stand_in_listed u stands =
      let front = take (length q - 2) q in
      let on = ((follows-append p.moves p.start front (u ∷ slice_index q (length q - 1) ∷ [])).0 stands.legal.follows).1 in
      let test : stands_by u ≡ true = and_from _ _ (finds (slice_index q (length q - 1)) (moves_from p.moves u) on.1.0) stands.cut in
      Contains-flat_map (λ u. cond (stands_by u) (u ∷ []) []) (moves_after p front) u u on.0 (rw test (Contains-head u []))

  listed_stands : (u : ℕ) → Contains stand_ins u → StandsIn p (exchanged u q) q
  unfolding stand_ins stands_by
  listed_stands u listed =
      let front = take (length q - 2) q in
      let last = slice_index q (length q - 1) in
      let (v, move, has) = Contains-flat_map_cases (λ u. cond (stands_by u) (u ∷ []) []) (moves_after p front) u listed in
      let found : (stands_by v ≡ true) × (v ≡ u) = cond_both (stands_by v) (v ∷ []) [] (λ xs. Contains xs u → (stands_by v ≡ true) × (v ≡ u))
      (λ test one. elim (Contains-cons_cases v u [] one) [ inl e ↦ (test, e) | inr none ↦ absurd (Contains-nil u none) ])
      (λ _ none. absurd (Contains-nil u none)) has in
      let parts = and_parts _ _ found.0 in
      let on : Contains (moves_from p.moves v) last = Contains-from_any (λ x y. eqb-true x y) last (moves_from p.moves v) parts.0 in
      let follows = (follows-append p.moves p.start front (v ∷ last ∷ [])).1 (follows-take p.moves p.start (length q - 2) q legal.follows, (move, (on, tt))) in
      let lawful : IsLegal p (exchanged v q) = record { follows = follows; short = omega (arith, exchanged-long p q long v, legal.short) } in
      subst (λ w. StandsIn p (exchanged w q) q) found.1 (exchanged-stands p q long v lawful parts.1)

  -- the order of positions by the prefixes that they make
  by_exchanged : IsStrictWeakOrder (λ u v. better (standing_of p (exchanged u q)) (standing_of p (exchanged v q)))
  by_exchanged = record {
    one_way = λ u v h. better_order.one_way (standing_of p (exchanged u q)) (standing_of p (exchanged v q)) h;
    chain = λ u v w h g. better_order.chain (standing_of p (exchanged u q)) (standing_of p (exchanged v q)) (standing_of p (exchanged w q)) h g;
  }

  -- one of the prefixes that stand in is the best, or none stands in
  pub best_or_none : ((u : ℕ) × IsBestStandIn p q u) ⊎ ((u : ℕ) → ¬ StandsIn p (exchanged u q) q)
  best_or_none = elim (cases_lt 0 (length stand_ins)) [
    | inl some ↦
        let (u, listed, least) = unbeaten _ by_exchanged stand_ins some in
        inl (
          u,
          record {
            stands = listed_stands u listed;
            best = λ v stands other.
                better_total (standing_of p (exchanged u q)) (standing_of p (exchanged v q)) (exchanged-differ q u v other) (least v (stand_in_listed v stands));
          },
        )
    | inr none ↦ inr (λ u stands. omega (arith, none, Contains-some stand_ins u (stand_in_listed u stands)))
  ]
