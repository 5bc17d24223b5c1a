-- Which prefixes are expected where a text leaves them out.
use Rattle.std.proofs.Common.{◌≡◌, ◌<◌, ℕ, List, [], ◌∷◌, ◌++◌, length, inl, inr, Bool, true, false, cond, refl, sym, subst, All}
use Rattle.std.specs.Prelude.{nat_lt}
use Rattle.std.proofs.lemmas.Bool.{cond_both, lt-ltb, ltb-true}
use Rattle.std.proofs.lemmas.List.Elements.{All-nil, All-cons, All-head, All-tail, All-append}
use Rattle.search_model.specs.declared.standing.Standing.{Standing}
use Rattle.search_model.specs.Problem.{Problem}
use Rattle.search_model.specs.Legal.{IsLegal}
use Rattle.bound_tree.specs.declared.node.Kind.{Kind}
use Rattle.bound_tree.specs.declared.node.Kind.TheVariants.{Branch}
use Rattle.bound_tree.specs.declared.node.TreeNode.{TreeNode}
use Rattle.bound_tree.specs.Accepts.{IsGoodKind, IsGood, expected_by, AreEaten}
use Rattle.bound_tree.specs.Places.{opened_by, AreInPlace, EatenIsPlacedAndGood, EatenAreInPlace}
use Rattle.bound_tree.proofs.Rooms.{branch_or_leaf, legal_expected}

-- either way nothing is expected
pub nothing_either_way : (b : Bool) → ◌≡◌ {A = List (List ℕ)} (cond b [] []) []
nothing_either_way true = refl
nothing_either_way false = refl

-- where only short prefixes branch, a record makes the same expected whether its length is asked for or not
pub opened_by_short : (p : Problem) (q : List ℕ) (kind : Kind) → (kind ≡ Branch → length q < p.horizon) → opened_by p q kind ≡ expected_by p q kind
opened_by_short p q kind short = elim (branch_or_leaf kind) [
  | inl branch ↦ rw (lt-ltb (length q) p.horizon (short branch)) refl
  | inr leaf ↦ rw (leaf p q) (nothing_either_way (nat_lt (length q) p.horizon))
]

-- and so does a good one
pub opened_by_good : (p : Problem) (s : Standing) (q : List ℕ) (kind : Kind) → IsGoodKind p s q kind → opened_by p q kind ≡ expected_by p q kind
opened_by_good p s q kind good = opened_by_short p q kind (λ branch. subst (IsGoodKind p s q) branch good)

-- records that are eaten are in place
in_place : (p : Problem) (s : Standing) (rs : List TreeNode) (qs : List (List ℕ)) → AreEaten p s qs rs → AreInPlace p qs rs
in_place p s [] [] eaten = tt
in_place p s [] (q ∷ qs) eaten = absurd eaten
in_place p s (r ∷ rs) [] eaten = absurd eaten
in_place p s (r ∷ rs) (q ∷ qs) eaten =
    let later = subst (λ (xs : List (List ℕ)). AreInPlace p (xs ++ qs) rs) (sym (opened_by_good p s r.prefix r.kind eaten.1)) (in_place p s rs (expected_by p r.prefix r.kind ++ qs) eaten.2) in
    (eaten.0, subst (λ (x : List ℕ). AreInPlace p (opened_by p x r.kind ++ qs) rs) eaten.0 later)

-- and good
all_good : (p : Problem) (s : Standing) (rs : List TreeNode) (qs : List (List ℕ)) → AreEaten p s qs rs → All (IsGood p s) rs
all_good p s [] qs eaten = All-nil (IsGood p s)
all_good p s (r ∷ rs) [] eaten = absurd eaten
all_good p s (r ∷ rs) (q ∷ qs) eaten = All-cons (IsGood p s) r rs eaten.1 (all_good p s rs (expected_by p r.prefix r.kind ++ qs) eaten.2)

-- good records in place are eaten
all_eaten : (p : Problem) (s : Standing) (rs : List TreeNode) (qs : List (List ℕ)) → AreInPlace p qs rs → All (IsGood p s) rs → AreEaten p s qs rs
all_eaten p s [] [] placed good = tt
all_eaten p s [] (q ∷ qs) placed good = absurd placed
all_eaten p s (r ∷ rs) [] placed good = absurd placed
all_eaten p s (r ∷ rs) (q ∷ qs) placed good =
    let here : IsGood p s r = All-head (IsGood p s) r rs good in
    let own = subst (λ (x : List ℕ). AreInPlace p (opened_by p x r.kind ++ qs) rs) (sym placed.0) placed.1 in
    let later = subst (λ (xs : List (List ℕ)). AreInPlace p (xs ++ qs) rs) (opened_by_good p s r.prefix r.kind here) own in
    (placed.0, here, all_eaten p s rs (expected_by p r.prefix r.kind ++ qs) later (All-tail (IsGood p s) r rs good))

pub eaten_is_placed_and_good : EatenIsPlacedAndGood
eaten_is_placed_and_good p s qs rs = (λ eaten. (in_place p s rs qs eaten, all_good p s rs qs eaten), λ both. all_eaten p s rs qs both.0 both.1)

pub eaten_are_in_place : EatenAreInPlace
eaten_are_in_place p s qs rs eaten = ((eaten_is_placed_and_good p s qs rs).0 eaten).0

-- what a record at a legal prefix makes expected is legal
pub legal_opened : (p : Problem) (q : List ℕ) (kind : Kind) → IsLegal p q → All (IsLegal p) (opened_by p q kind)
legal_opened p q kind legal =
    cond_both (nat_lt (length q) p.horizon) (expected_by p q kind) [] (All (IsLegal p))
    (λ short. legal_expected p q kind legal (λ _. ltb-true (length q) p.horizon short))
    (λ _. All-nil (IsLegal p))

-- records in place have legal prefixes, where those that are expected are legal
pub placed_are_legal : (p : Problem) (rs : List TreeNode) (qs : List (List ℕ)) → All (IsLegal p) qs → AreInPlace p qs rs → All (λ r. IsLegal p r.prefix) rs
placed_are_legal p [] qs legal placed = All-nil (λ r. IsLegal p r.prefix)
placed_are_legal p (r ∷ rs) [] legal placed = absurd placed
placed_are_legal p (r ∷ rs) (q ∷ qs) legal placed =
    let here : IsLegal p q = All-head (IsLegal p) q qs legal in
    let next = All-append (IsLegal p) (opened_by p q r.kind) qs (legal_opened p q r.kind here) (All-tail (IsLegal p) q qs legal) in
    All-cons (λ r. IsLegal p r.prefix) r rs (subst (IsLegal p) (sym placed.0) here) (placed_are_legal p rs (opened_by p q r.kind ++ qs) next placed.1)
