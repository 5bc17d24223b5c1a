-- The walks from a position.
use Rattle.std.proofs.Common.{ℕ, zero, suc, ◌-◌, ◌<◌, ◌≡◌, ◌↔◌, List, [], ◌∷◌, ◌++◌, map, length, take, drop, get_or, inl, inr, refl, sym, ap, subst, arith, Contains, length-append}
use Rattle.std.proofs.lemmas.List.{length-take, take-append-drop}
use Rattle.search_grid.specs.Moves.{moves_from, IsGrid}
use Rattle.search_model.specs.Problem.{Problem}
use Rattle.search_model.specs.Legal.{last_of, Follows, IsLegal, IsPath, walks}
use Rattle.search_model.specs.Laws.{WalksFollow, ContinuationsAre}
use Rattle.search_model.proofs.LegalLemmas.{move_within}
use Rattle.list_laws.proofs.Members.{Contains-nil, Contains-head, Contains-some, Contains-cons_cases, Contains-map, Contains-map_cases, Contains-flat_map, Contains-flat_map_cases}

-- what follows the moves is listed
pub walk_listed : (rows : List (List ℕ)) (n a : ℕ) (y : List ℕ) → Follows rows a y → length y ≡ n → Contains (walks rows n a) y
unfolding walks
walk_listed rows zero a [] f e = Contains-head [] []
walk_listed rows zero a (b ∷ y) f e = cc
walk_listed rows (suc n) a [] f e = cc
walk_listed rows (suc n) a (b ∷ y) f e =
    Contains-flat_map (λ b. map (λ y. b ∷ y) (walks rows n b)) (moves_from rows a) b (b ∷ y) f.0
    (Contains-map (λ y. b ∷ y) (walks rows n b) y (walk_listed rows n b y f.1 (cc)))

-- what is listed follows the moves
pub listed_walk : (rows : List (List ℕ)) (n a : ℕ) (y : List ℕ) → Contains (walks rows n a) y → Follows rows a y × (length y ≡ n)
unfolding walks
listed_walk rows zero a y h = elim (Contains-cons_cases [] y [] h) [
  | inl e ↦ subst (λ z. Follows rows a z × (length z ≡ 0)) e (tt, refl)
  | inr k ↦ absurd (Contains-nil y k)
]
listed_walk rows (suc n) a y h =
    let step = Contains-flat_map_cases (λ b. map (λ y. b ∷ y) (walks rows n b)) (moves_from rows a) y h in
    let rest = Contains-map_cases (λ y. step.0 ∷ y) (walks rows n step.0) y step.2 in
    let known = listed_walk rows n step.0 rest.0 rest.1 in
    subst (λ z. Follows rows a z × (length z ≡ suc n)) rest.2 ((step.1, known.0), ap suc known.1)

pub walks_follow : WalksFollow
walks_follow rows n a y = (listed_walk rows n a y, λ h. walk_listed rows n a y h.0 h.1)

-- from each position there is a walk of each length
pub some_walk : (rows : List (List ℕ)) → IsGrid rows → (n a : ℕ) → a < length rows → (y : List ℕ) × Follows rows a y × (length y ≡ n)
some_walk rows grid zero a here = ([], tt, refl)
some_walk rows grid (suc n) a here =
    let b : ℕ = get_or (moves_from rows a) 0 0 in
    let move : Contains (moves_from rows a) b = (0, omega (arith, (grid.each a here).some), Rattle.std.proofs.lemmas.List.get_or_default (moves_from rows a) 0 b 0 (omega (arith, (grid.each a here).some))) in
    let rest = some_walk rows grid n b (move_within rows grid a b here move) in
    (b ∷ rest.0, (move, rest.1), ap suc rest.2)

-- so the list of them isn't empty
pub some_walks : (rows : List (List ℕ)) → IsGrid rows → (n a : ℕ) → a < length rows → 0 < length (walks rows n a)
some_walks rows grid n a here =
    let walk = some_walk rows grid n a here in
    Contains-some (walks rows n a) walk.0 (walk_listed rows n a walk.0 walk.1 walk.2)

-- the paths are the walks of the horizon's length from the start
pub path_listed : (p : Problem) (q : List ℕ) → IsPath p q → Contains (walks p.moves p.horizon p.start) q
path_listed p q path = walk_listed p.moves p.horizon p.start q path.follows path.whole

pub listed_path : (p : Problem) (q : List ℕ) → Contains (walks p.moves p.horizon p.start) q → IsPath p q
listed_path p q h = let known = listed_walk p.moves p.horizon p.start q h in record { follows = known.0; whole = known.1 }

-- a longer list follows the moves where its front does and its rest does from there
pub follows-append : (rows : List (List ℕ)) (a : ℕ) (q y : List ℕ) → Follows rows a (q ++ y) ↔ (Follows rows a q × Follows rows (last_of a q) y)
follows-append rows a [] y = ((λ f. (tt, f)), λ f. f.1)
follows-append rows a (b ∷ q) y =
    let rest = follows-append rows b q y in
    ((λ f. ((f.0, (rest.0 f.1).0), (rest.0 f.1).1)), λ f. (f.0.0, rest.1 (f.0.1, f.1)))

-- a front of what follows the moves follows them
pub follows-take : (rows : List (List ℕ)) (a n : ℕ) (q : List ℕ) → Follows rows a q → Follows rows a (take n q)
follows-take rows a n q follows =
    let parts : Follows rows a (take n q ++ drop n q) = subst (Follows rows a) (sym (take-append-drop n q)) follows in
    ((follows-append rows a (take n q) (drop n q)).0 parts).0

-- so a front of a legal prefix is legal
pub front_is_legal : (p : Problem) (q : List ℕ) (k : ℕ) → IsLegal p q → IsLegal p (take k q)
front_is_legal p q k legal = record { follows = follows-take p.moves p.start k q legal.follows; short = omega (arith, length-take k q, legal.short) }

pub continuations_are : ContinuationsAre
continuations_are p q y legal =
    let n : ℕ = p.horizon - length q in
    let from : ℕ = last_of p.start q in
    let both = follows-append p.moves p.start q y in (
      (λ listed.
          let known = listed_walk p.moves n from y listed in
          record { follows = both.1 (legal.follows, known.0); whole = omega (arith, length-append q y, known.1, legal.short) }),
      λ path. walk_listed p.moves n from y (both.0 path.follows).1 (omega (arith, length-append q y, path.whole)),
    )
