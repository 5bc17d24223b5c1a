-- The best among the paths that begin with a prefix.
use Rattle.std.proofs.Common.{ℕ, ◌-◌, ◌<◌, ◌≤◌, ◌≡◌, true, List, ◌++◌, map, length, take, drop, inl, inr, sym, subst, ◌∙◌, arith, Contains, IsTrue}
use Rattle.std.proofs.lemmas.Bool.{true≢false, cases_Bool}
use Rattle.std.proofs.lemmas.List.{length-map, length-take-le, take-append-drop}
use Rattle.search_model.specs.declared.standing.Standing.{Standing}
use Rattle.search_model.specs.Problem.{Problem, IsProblem}
use Rattle.search_model.specs.Legal.{last_of, IsLegal, IsPath, continuations}
use Rattle.search_model.specs.Order.{better, Starts, standing_of}
use Rattle.search_model.proofs.Best.{unbeaten, by_standing}
use Rattle.search_model.proofs.LegalLemmas.{last_within}
use Rattle.search_model.proofs.Orders.{better_order, better_total, better_one_way, same_or_differ}
use Rattle.search_model.proofs.WalkLemmas.{some_walks, follows-append, continuations_are}
use Rattle.list_laws.proofs.Members.{Contains-map, Contains-map_cases}
use Rattle.searcher_maps.specs.Carried.{IsBestAmong, IsBestBehind}
use Rattle.searcher_maps.specs.Laws.{OneBestBehind, BestOfFlown}

-- better leads on
pub better_trans : (s t u : Standing) → better s t ≡ true → better t u ≡ true → better s u ≡ true
better_trans s t u h g = elim (cases_Bool (better s u)) [
  | inl e ↦ e
  | inr f ↦ absurd (true≢false (sym h ∙ better_order.chain s u t f (better_one_way t u g)))
]

-- a best path among those that have a property is the only one
pub best_among_is_one : (p : Problem) (X : List ℕ → Type 0) (y r : List ℕ) → IsBestAmong p X y → IsBestAmong p X r → r ≡ y
best_among_is_one p X y r best other = elim (same_or_differ r y) [
  | inl e ↦ e
  | inr differ ↦ absurd (true≢false (sym (other.better y best.path best.has (λ e. differ (sym e))) ∙ better_one_way (standing_of p y) (standing_of p r) (best.better r other.path other.has differ)))
]

module _ (p : Problem) (sound : IsProblem p) where
  -- the paths that begin with a legal prefix
  paths_behind : List ℕ → List (List ℕ)
  paths_behind q = map (λ y. q ++ y) (continuations p q)

  some_behind : (q : List ℕ) → IsLegal p q → 0 < length (paths_behind q)
  unfolding paths_behind
  some_behind q legal =
      let start : p.start < length p.moves = omega (arith, sound.start, sound.grid_positions) in
      let some = some_walks p.moves sound.grid (p.horizon - length q) (last_of p.start q) (last_within p.moves sound.grid p.start start q legal.follows) in
      rw length-map some

  path_behind : (q y : List ℕ) → IsLegal p q → Contains (paths_behind q) y → IsPath p y × Starts q y
  unfolding paths_behind
  path_behind q y legal listed =
      let (rest, on, e) = Contains-map_cases (λ y. q ++ y) (continuations p q) y listed in
      (subst (IsPath p) e ((continuations_are p q rest legal).0 on), (rest, sym e))

  behind_path : (q y : List ℕ) → IsLegal p q → IsPath p y → Starts q y → Contains (paths_behind q) y
  unfolding paths_behind
  behind_path q y legal path starts =
      let (rest, e) = starts in
      let on = (continuations_are p q rest legal).1 (subst (IsPath p) e path) in
      subst (Contains (paths_behind q)) (sym e) (Contains-map (λ y. q ++ y) (continuations p q) rest on)

  pub best_behind : (q : List ℕ) → IsLegal p q → (y : List ℕ) × IsBestAmong p (Starts q) y
  best_behind q legal =
      let (y, listed, least) = unbeaten _ (by_standing p) (paths_behind q) (some_behind q legal) in
      let parts = path_behind q y legal listed in (
        y,
        record {
          path = parts.0;
          has = parts.1;
          better = λ r path starts differ. better_total (standing_of p y) (standing_of p r) (λ e. differ (sym e)) (least r (behind_path q r legal path starts));
        },
      )

pub one_best_behind : OneBestBehind
one_best_behind p q sound legal =
    let (y, best) = best_behind p sound q legal in
    (y, best, λ r other. best_among_is_one p (Starts q) y r best other)

-- the front of a path is legal
pub front_is_legal : (p : Problem) (n : ℕ) (r : List ℕ) → n ≤ p.horizon → IsPath p r → IsLegal p (take n r) × (length (take n r) ≡ n)
front_is_legal p n r short path =
    let both = take-append-drop n r in
    let size = length-take-le n r (omega (arith, path.whole, short)) in
    (record { follows = ((follows-append p.moves p.start (take n r) (drop n r)).0 (rw both path.follows)).0; short = omega (arith, size, short) }, size)

pub best_of_flown : BestOfFlown
best_of_flown p n y sound short among = record {
  path = among.path;
  better = λ r path differ.
      let q = take n r in
      let front = front_is_legal p n r short path in
      let starts : Starts q r = (drop n r, sym (take-append-drop n r)) in
      let (b, best) = best_behind p sound q front.0 in
      let behind : IsBestBehind p n b = (q, front.0, front.1, best) in
      elim (same_or_differ r b) [
        | inl e ↦ among.better r path (subst (IsBestBehind p n) (sym e) behind) differ
        | inr apart ↦ elim (same_or_differ b y) [
          | inl e ↦ subst (λ z. IsTrue (better (standing_of p z) (standing_of p r))) e (best.better r path starts apart)
          | inr other ↦ better_trans (standing_of p y) (standing_of p b) (standing_of p r) (among.better b best.path behind other) (best.better r path starts apart)
        ]
      ];
}
