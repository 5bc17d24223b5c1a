-- Records that have the prefixes that are expected, one after the other.
use Rattle.std.proofs.Common.{◌≡◌, ℕ, ◌<◌, ◌+◌, List, [], ◌∷◌, length, drop, get_or, Some, None, sym, subst, ◌∙◌}
use Rattle.std.specs.Prelude.{All, ◌↔◌}
use Rattle.std.proofs.lemmas.List.{drop_more}
use Rattle.search_model.specs.Problem.{Problem}
use Rattle.search_model.specs.Legal.{IsLegal}
use Rattle.bound_tree.specs.declared.node.TreeNode.{TreeNode}
use Rattle.bound_tree.specs.Places.{AreInPlace, first_of, expected_behind}
use Rattle.tree_format.specs.Placing.{IsTaken, IsOutOfPlace}
use Rattle.tree_format.proofs.Spelled.{legal_behind}

-- a record that has the first of the prefixes
pub taken : (p : Problem) (old new : List (List ℕ)) (q : List ℕ) (r : TreeNode) → first_of old ≡ Some q → q ≡ r.prefix → (All (IsLegal p) old → new ≡ expected_behind p old r.kind) → IsTaken p old r new
taken p [] new q r first same next = absurd (let bad : ⊥ = cc in bad)
taken p (x ∷ old) new q r first same next = record {
  legal = λ legal. subst (All (IsLegal p)) (sym (next legal)) (legal_behind p (x ∷ old) r.kind legal);
  left = λ legal rs. (
    λ h. subst (λ (qs : List (List ℕ)). AreInPlace p qs rs) (sym (next legal)) h.1,
    λ h. ((let here : x ≡ q = cc in sym same ∙ sym here), subst (λ (qs : List (List ℕ)). AreInPlace p qs rs) (next legal) h),
  );
}

-- a record where none is expected
pub no_place : (p : Problem) (expected : List (List ℕ)) (r : TreeNode) → first_of expected ≡ None → IsOutOfPlace p expected r
no_place p [] r none = λ rs h. h
no_place p (x ∷ expected) r none = absurd (let bad : ⊥ = cc in bad)

-- behind so many records these prefixes are expected
pub record AreLeft (p : Problem) (tree : List TreeNode) (i : ℕ) (expected : List (List ℕ)) : Type 0 where
  pub legal : All (IsLegal p) expected
  pub left : AreInPlace p ([] ∷ []) tree ↔ AreInPlace p expected (drop i tree)

pub more_taken : (p : Problem) (tree : List TreeNode) (i : ℕ) (d : TreeNode) (old new : List (List ℕ)) → i < length tree → AreLeft p tree i old → IsTaken p old (get_or tree i d) new → AreLeft p tree (i + 1) new
more_taken p tree i d old new lt before step =
    let cut : drop i tree ≡ get_or tree i d ∷ drop (i + 1) tree = drop_more tree i d lt in
    let here = subst (λ (rs : List TreeNode). AreInPlace p ([] ∷ []) tree ↔ AreInPlace p old rs) cut before.left in
    let on = step.left before.legal (drop (i + 1) tree) in
    record { legal = step.legal before.legal; left = (λ h. on.0 (here.0 h), λ h. here.1 (on.1 h)) }

-- a record out of its place
pub refused : (p : Problem) (tree : List TreeNode) (i : ℕ) (d : TreeNode) (old : List (List ℕ)) → i < length tree → AreLeft p tree i old → IsOutOfPlace p old (get_or tree i d) → AreInPlace p ([] ∷ []) tree → ⊥
refused p tree i d old lt before out all =
    let cut : drop i tree ≡ get_or tree i d ∷ drop (i + 1) tree = drop_more tree i d lt in
    out (drop (i + 1) tree) (subst (AreInPlace p old) cut (before.left.0 all))
