-- Balanced records in preorder are in place, and eaten where they are good.
use Rattle.std.proofs.Common.{◌≡◌, ℕ, ◌+◌, ◌<◌, true, false, List, [], ◌∷◌, ◌++◌, map, inl, inr, sym, refl, ap, ◌∙◌, subst, arith, get_or, length, Contains, All, AllPairs, append_assoc, append-nil}
use Rattle.std.proofs.lemmas.Bool.{cases_lt, true≢false}
use Rattle.std.proofs.lemmas.List.Elements.{All-nil, All-head, All-tail, All-contains, All-map, All-weaker}
use Rattle.list_laws.proofs.Pairs.{AllPairs-nil, AllPairs-cons, AllPairs-head, AllPairs-tail, AllPairs-append, AllPairs-map}
use Rattle.search_model.specs.declared.standing.Standing.{Standing}
use Rattle.search_model.specs.Problem.{Problem, IsProblem}
use Rattle.search_model.specs.Legal.{moves_after}
use Rattle.search_model.specs.Order.{smaller}
use Rattle.list_laws.proofs.Members.{Contains-map, Contains-map_cases, Contains-cons_cases, Contains-flat_map_cases}
use Rattle.search_model.proofs.Orders.{smaller_irreflexive, smaller_one_way, smaller_prefix, smaller_at}
use Rattle.bound_tree.specs.declared.node.Kind.{Kind}
use Rattle.bound_tree.specs.declared.node.Kind.TheVariants.{Branch}
use Rattle.bound_tree.specs.declared.node.TreeNode.{TreeNode}
use Rattle.bound_tree.specs.Accepts.{prefixes_of}
use Rattle.bound_tree.specs.Accepts.{children_of, expected_by, IsGoodKind, IsGood}
use Rattle.bound_tree.specs.Places.{opened_by, AreInPlace}
use Rattle.bound_tree.proofs.Placing.{eaten_is_placed_and_good, opened_by_short}
use Rattle.search_core.specs.Counts.{count_of}
use Rattle.search_core.specs.Balance.{expected_of}
use Rattle.search_core.specs.Laws.{IsPreorder, BranchesAreShort, BalancedIsPlaced, BalancedIsAccepted}
use Rattle.search_core.proofs.Counts.{count_of-append, count_of_here, Contains-counted}
use Rattle.search_core.proofs.Order.{IsAbove}
use Rattle.bound_tree.proofs.Rooms.{branch_or_leaf}
use Rattle.search_core.proofs.Children.{Rises, moves_rise, expected_cases}

-- all that begins with q is smaller than r
abbrev Before : List ℕ → List ℕ → Type 0
Before q r = (y : List ℕ) → smaller (q ++ y) r ≡ true

-- each prefix, with all that begins with it, is smaller than the later ones
abbrev AreOrdered : List (List ℕ) → Type 0
AreOrdered qs = AllPairs Before qs

siblings : (q : List ℕ) (d e : ℕ) → d < e → Before (q ++ d ∷ []) (q ++ e ∷ [])
siblings q d e less y = rw (append_assoc q (d ∷ []) y) (smaller_at q d e y [] less)

before_child : (q r : List ℕ) (d : ℕ) → Before q r → Before (q ++ d ∷ []) r
before_child q r d h y = rw (append_assoc q (d ∷ []) y) (h (d ∷ y))

children_ordered : (q ds : List ℕ) → Rises ds → AreOrdered (map (λ d. q ++ d ∷ []) ds)
children_ordered q ds up = AllPairs-map Before (λ d. q ++ d ∷ []) ds (λ i j x before inside. siblings q (get_or ds i x) (get_or ds j x) (up i j x before inside))

children_before : (q ds : List ℕ) (rs : List (List ℕ)) → All (Before q) rs → All (λ c. All (Before c) rs) (map (λ d. q ++ d ∷ []) ds)
children_before q ds rs h =
    All-map (λ c. All (Before c) rs) (λ d. q ++ d ∷ []) ds (λ k x inside. let d = get_or ds k x in All-weaker (Before q) (Before (q ++ d ∷ [])) (λ r. before_child q r d) rs h)

-- the prefixes of later records aren't smaller than that of the first
abbrev FirstIsLeast : TreeNode → List TreeNode → Type 0
FirstIsLeast r rs = (s : TreeNode) → Contains (r ∷ rs) s → smaller s.prefix r.prefix ≡ false

first_is_least : (r : TreeNode) (rs : List TreeNode) → IsPreorder (r ∷ rs) → FirstIsLeast r rs
first_is_least r rs pre s h = elim (Contains-cons_cases r s rs h) [
  | inl e ↦ ap (λ (z : TreeNode). smaller z.prefix r.prefix) (sym e) ∙ smaller_irreflexive r.prefix
  | inr later ↦
      smaller_one_way r.prefix s.prefix (All-contains (IsAbove r.prefix) (prefixes_of rs) s.prefix (AllPairs-head IsAbove r.prefix (prefixes_of rs) pre) (Contains-map (λ (z : TreeNode). z.prefix) rs s later))
]

-- a record that branches only below the horizon
abbrev IsShort : Problem → TreeNode → Type 0
IsShort p r = r.kind ≡ Branch → length r.prefix < p.horizon

module _ (p : Problem) (sound : IsProblem p) where
  expected_ordered : (q : List ℕ) (kind : Kind) (qs : List (List ℕ)) → AreOrdered (q ∷ qs) → AreOrdered (expected_by p q kind ++ qs)
  expected_ordered q kind qs h = elim (branch_or_leaf kind) [
    | inl branch ↦
        rw branch
        (AllPairs-append Before (children_of p q) qs (children_ordered q (moves_after p q) (moves_rise p q sound)) (AllPairs-tail Before q qs h)
        (children_before q (moves_after p q) qs (AllPairs-head Before q qs h)))
    | inr leaf ↦ rw (leaf p q) (AllPairs-tail Before q qs h)
  ]

  -- the first of a preorder is no one's child
  first_is_no_child : (r : TreeNode) (rs : List TreeNode) → FirstIsLeast r rs → Contains (expected_of p (r ∷ rs)) r.prefix → ⊥
  first_is_no_child r rs least h =
      let found = Contains-flat_map_cases (λ r. expected_by p r.prefix r.kind) (r ∷ rs) r.prefix h in
      let made = expected_cases p found.0.prefix found.0.kind r.prefix found.2 in
      let above : smaller found.0.prefix r.prefix ≡ true = subst (λ z. smaller found.0.prefix z ≡ true) made.3 (smaller_prefix found.0.prefix made.1 []) in
      true≢false (sym above ∙ least found.0 found.1)

  -- the expected prefixes and the children are, up to order, the prefixes of the records
  abbrev AreEven : List (List ℕ) → List TreeNode → Type 0
  AreEven qs rs = (q : List ℕ) → count_of q qs + count_of q (expected_of p rs) ≡ count_of q (prefixes_of rs)

  first_expected : (q : List ℕ) (qs : List (List ℕ)) (r : TreeNode) (rs : List TreeNode) → AreOrdered (q ∷ qs) → FirstIsLeast r rs →
      AreEven (q ∷ qs) (r ∷ rs) → r.prefix ≡ q
  first_expected q qs r rs ord least even =
      let stands : 0 < count_of q (prefixes_of (r ∷ rs)) = omega (arith, even q, count_of_here q q refl) in
      let holder = Contains-map_cases (λ (r : TreeNode). r.prefix) (r ∷ rs) q (Contains-counted q (prefixes_of (r ∷ rs)) stands) in
      let not_below : smaller q r.prefix ≡ false = ap (λ z. smaller z r.prefix) (sym holder.2) ∙ least holder.0 holder.1 in
      let no_child : count_of r.prefix (expected_of p (r ∷ rs)) ≡ 0 = elim (cases_lt 0 (count_of r.prefix (expected_of p (r ∷ rs)))) [
        | inl k ↦ absurd (first_is_no_child r rs least (Contains-counted r.prefix (expected_of p (r ∷ rs)) k))
        | inr k ↦ omega (arith, k)
      ] in
      let on_stack : 0 < count_of r.prefix (q ∷ qs) = omega (arith, even r.prefix, no_child, count_of_here r.prefix r.prefix refl) in
      elim (Contains-cons_cases q r.prefix qs (Contains-counted r.prefix (q ∷ qs) on_stack)) [
        | inl e ↦ sym e
        | inr k ↦ absurd (true≢false (sym (rw append-nil at (All-contains (Before q) qs r.prefix (AllPairs-head Before q qs ord) k [])) ∙ not_below))
      ]

  placed : (qs : List (List ℕ)) (rs : List TreeNode) → AreOrdered qs → AreEven qs rs → BranchesAreShort p rs → IsPreorder rs → AreInPlace p qs rs
  placed [] [] ord even short pre = tt
  placed (q ∷ qs) [] ord even short pre = absurd (omega (arith, even q, count_of_here q q refl))
  placed [] (r ∷ rs) ord even short pre =
      absurd (first_is_no_child r rs (first_is_least r rs pre)
      (Contains-counted r.prefix (expected_of p (r ∷ rs)) (omega (arith, even r.prefix, count_of_here r.prefix r.prefix refl))))
  placed (q ∷ qs) (r ∷ rs) ord even short pre =
      let same = first_expected q qs r rs ord (first_is_least r rs pre) even in
      let here : AreOrdered (r.prefix ∷ qs) = subst (λ z. AreOrdered (z ∷ qs)) (sym same) ord in
      let below = expected_by p r.prefix r.kind in
      let later : AreInPlace p (below ++ qs) rs =
      placed (below ++ qs) rs (expected_ordered r.prefix r.kind qs here)
      (λ z. let a = even z in let b = count_of-append z below qs in let c = count_of-append z below (expected_of p rs) in
      let e : count_of z (r.prefix ∷ []) ≡ count_of z (q ∷ []) = ap (λ y. count_of z (y ∷ [])) same in omega (arith, a, b, c, e))
      (All-tail (IsShort p) r rs short)
      (AllPairs-tail IsAbove r.prefix (prefixes_of rs) pre) in
      let opened = subst (λ (xs : List (List ℕ)). AreInPlace p (xs ++ qs) rs) (sym (opened_by_short p r.prefix r.kind (All-head (IsShort p) r rs short))) later in
      (same, subst (λ (x : List ℕ). AreInPlace p (opened_by p x r.kind ++ qs) rs) same opened)

pub balanced_is_placed : BalancedIsPlaced
balanced_is_placed p rs sound equation short pre =
    placed p sound ([] ∷ []) rs (AllPairs-cons Before [] [] (All-nil (Before [])) (AllPairs-nil Before)) (λ q. omega (arith, equation q)) short pre

-- records that are good branch only below the horizon
pub good_are_short : (p : Problem) (s : Standing) (rs : List TreeNode) → All (IsGood p s) rs → BranchesAreShort p rs
good_are_short p s rs good = All-weaker (IsGood p s) (IsShort p) (λ r here e. subst (λ (kind : Kind). IsGoodKind p s r.prefix kind) e here) rs good

pub balanced_is_accepted : BalancedIsAccepted
balanced_is_accepted p s rs sound exact equation good pre = record {
  path = exact.path;
  value = exact.value;
  weight = refl;
  tree =
      (eaten_is_placed_and_good p s ([] ∷ []) rs).1
      (balanced_is_placed p rs sound equation (good_are_short p s rs good) pre, good);
}
