-- The children of Branch records, counted.
use Rattle.std.proofs.Common.{◌≡◌, ◌≢◌, ℕ, ◌+◌, ◌≤◌, ◌<◌, List, [], ◌∷◌, ◌++◌, map, length, inl, inr, sym, refl, ap, subst, arith, Contains, bytes_eq}
use Rattle.std.proofs.lemmas.Bool.{cond_both, cases_lt}
use Rattle.std.proofs.lemmas.List.{same_from_push, get_or_past}
use Rattle.std.proofs.lemmas.List.Elements.{All-contains}
use Rattle.std.proofs.lemmas.Slice.Eq.{bytes_eq-Decides}
use Rattle.std.proofs.lemmas.List.Kept.{AllPairs-from_increasing}
use Rattle.search_grid.specs.Moves.{moves_from, IsGrid}
use Rattle.list_laws.proofs.Ascending.{Ascends, Ascends-head, Ascends-tail}
use Rattle.search_model.specs.Problem.{Problem, IsProblem}
use Rattle.search_model.specs.Legal.{last_of, moves_after}
use Rattle.list_laws.proofs.Members.{Contains-nil, Contains-map_cases}
use Rattle.bound_tree.specs.declared.node.Kind.{Kind}
use Rattle.bound_tree.specs.declared.node.Kind.TheVariants.{Branch}
use Rattle.bound_tree.specs.declared.node.TreeNode.{TreeNode}
use Rattle.bound_tree.specs.Accepts.{prefixes_of}
use Rattle.bound_tree.specs.Accepts.{expected_by}
use Rattle.bound_tree.proofs.Rooms.{branch_or_leaf}
use Rattle.search_core.specs.Counts.{count_of}
use Rattle.search_core.specs.Balance.{expected_of}
use Rattle.search_core.proofs.Counts.{count_of-append, count_of_here, none_counted}

abbrev pub Rises : List ℕ → Type 0
Rises ds = Ascends (λ (d : ℕ). d) ds

no_moves : (rows : List (List ℕ)) (a : ℕ) → length rows ≤ a → moves_from rows a ≡ []
unfolding moves_from
no_moves rows a past = get_or_past rows a [] past

-- the moves of any position ascend
rising : (rows : List (List ℕ)) (a : ℕ) → IsGrid rows → Rises (moves_from rows a)
rising rows a grid = elim (cases_lt a (length rows)) [
  | inl here ↦ AllPairs-from_increasing (moves_from rows a) (grid.each a here).ascending
  | inr past ↦ subst Rises (sym (no_moves rows a past)) (λ i j d before inside. absurd (omega (arith, inside)))
]

pub moves_rise : (p : Problem) (q : List ℕ) → IsProblem p → Rises (moves_after p q)
moves_rise p q sound = rising p.moves (last_of p.start q) sound.grid

-- a prefix is empty, or one position more than its front
pub front_of : (x : ℕ) (q : List ℕ) → (r : List ℕ) × (d : ℕ) × (x ∷ q ≡ r ++ d ∷ [])
front_of x [] = ([], x, refl)
front_of x (y ∷ q) = let rest = front_of y q in (x ∷ rest.0, rest.1, ap (λ z. x ∷ z) rest.2)

pub no_push : (q : List ℕ) (d : ℕ) → q ++ d ∷ [] ≢ []
no_push [] d e = cc
no_push (x ∷ q) d e = cc

-- only a branch makes prefixes expected, its children
pub expected_cases : (p : Problem) (q : List ℕ) (kind : Kind) (r : List ℕ) → Contains (expected_by p q kind) r →
    (kind ≡ Branch) × (d : ℕ) × Contains (moves_after p q) d × (q ++ d ∷ [] ≡ r)
expected_cases p q kind r h = elim (branch_or_leaf kind) [
  | inl branch ↦
      let found = Contains-map_cases (λ d. q ++ d ∷ []) (moves_after p q) r (subst (λ (k : Kind). Contains (expected_by p q k) r) branch h) in
      (branch, found.0, found.1, found.2)
  | inr leaf ↦ absurd (Contains-nil r (subst (λ qs. Contains qs r) (leaf p q) h))
]

-- a child stands at most once among its siblings, and among no others' children
children_once : (p q ds : List ℕ) (d : ℕ) → Rises ds → count_of (q ++ d ∷ []) (map (λ e. p ++ e ∷ []) ds) ≤ count_of q (p ∷ [])
children_once p q [] d up = omega arith
children_once p q (e ∷ ds) d up =
    cond_both (bytes_eq (p ++ e ∷ []) (q ++ d ∷ [])) 1 0 (λ n. n + count_of (q ++ d ∷ []) (map (λ e. p ++ e ∷ []) ds) ≤ count_of q (p ∷ []))
    (λ same.
    let parts = same_from_push p q e d ((bytes_eq-Decides (p ++ e ∷ []) (q ++ d ∷ [])).0 same) in
    let others : count_of (q ++ d ∷ []) (map (λ e. p ++ e ∷ []) ds) ≡ 0 = none_counted (q ++ d ∷ []) (map (λ e. p ++ e ∷ []) ds)
    (λ h. let found = Contains-map_cases (λ e. p ++ e ∷ []) ds (q ++ d ∷ []) h in
    let move = (same_from_push p q found.0 d found.2).1 in
    let above : e < found.0 = All-contains (λ f. e < f) ds found.0 (Ascends-head (λ (d : ℕ). d) e ds up) found.1 in
    let none : ⊥ = omega (arith, above, move, parts.1) in none) in
    omega (arith, others, count_of_here q p parts.0))
    (λ _. omega (arith, children_once p q ds d (Ascends-tail (λ (d : ℕ). d) e ds up)))

module _ (p : Problem) where
  pub expected-append : (q : List ℕ) (rs ss : List TreeNode) → count_of q (expected_of p (rs ++ ss)) ≡ count_of q (expected_of p rs) + count_of q (expected_of p ss)
  expected-append q [] ss = omega arith
  expected-append q (r ∷ rs) ss =
      let here = expected_by p r.prefix r.kind in
      omega (arith, expected-append q rs ss, count_of-append q here (expected_of p (rs ++ ss)), count_of-append q here (expected_of p rs))

  pub prefixes-append : (q : List ℕ) (rs ss : List TreeNode) → count_of q (prefixes_of (rs ++ ss)) ≡ count_of q (prefixes_of rs) + count_of q (prefixes_of ss)
  prefixes-append q [] ss = omega arith
  prefixes-append q (r ∷ rs) ss = omega (arith, prefixes-append q rs ss)

  expected_once : IsProblem p → (q : List ℕ) (kind : Kind) (r : List ℕ) (d : ℕ) → count_of (r ++ d ∷ []) (expected_by p q kind) ≤ count_of r (q ∷ [])
  expected_once sound q kind r d = elim (branch_or_leaf kind) [
    | inl branch ↦ rw branch (children_once q r (moves_after p q) d (moves_rise p q sound))
    | inr leaf ↦ rw (leaf p q) (omega arith)
  ]

  -- a child is expected at most as often as its front has a record
  pub expected_by_records : IsProblem p → (rs : List TreeNode) (q : List ℕ) (d : ℕ) → count_of (q ++ d ∷ []) (expected_of p rs) ≤ count_of q (prefixes_of rs)
  expected_by_records sound [] q d = omega arith
  expected_by_records sound (r ∷ rs) q d =
      omega (arith, expected_once sound r.prefix r.kind q d, expected_by_records sound rs q d, count_of-append (q ++ d ∷ []) (expected_by p r.prefix r.kind) (expected_of p rs))

  no_empty_child : (q : List ℕ) (kind : Kind) → count_of [] (expected_by p q kind) ≡ 0
  no_empty_child q kind = none_counted [] (expected_by p q kind) (λ h. let found = expected_cases p q kind [] h in no_push q found.1 found.3)

  -- the empty prefix is no one's child
  pub no_empty_children : (rs : List TreeNode) → count_of [] (expected_of p rs) ≡ 0
  no_empty_children [] = refl
  no_empty_children (r ∷ rs) = omega (arith, no_empty_child r.prefix r.kind, no_empty_children rs, count_of-append [] (expected_by p r.prefix r.kind) (expected_of p rs))
