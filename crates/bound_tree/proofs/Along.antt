-- What holds along the records of a tree, and where a path goes on.
use Rattle.std.proofs.Common.{◌≡◌, ℕ, ◌<◌, List, [], ◌∷◌, ◌++◌, length, take, refl, sym, subst, arith, Contains, All}
use Rattle.std.proofs.lemmas.List.Elements.{All-nil, All-cons, All-head, All-tail, All-contains}
use Rattle.search_grid.specs.Moves.{moves_from}
use Rattle.search_model.specs.Problem.{Problem}
use Rattle.search_model.specs.Legal.{Follows, last_of}
use Rattle.list_laws.proofs.Halves.{All-front, All-back}
use Rattle.list_laws.proofs.Members.{Contains-map}
use Rattle.bound_tree.specs.declared.node.TreeNode.{TreeNode}
use Rattle.bound_tree.specs.Accepts.{Extends, children_of}
use Rattle.bound_tree.specs.Places.{opened_by, AreInPlace}

-- a longer list that begins with a prefix goes on by a move
next_move : (rows : List (List ℕ)) (a : ℕ) (q y : List ℕ) → Follows rows a y → take (length q) y ≡ q → length q < length y →
    (b : ℕ) × (take (length (q ++ b ∷ [])) y ≡ q ++ b ∷ []) × Contains (moves_from rows (last_of a q)) b
next_move rows a [] [] f e l = absurd (omega (arith, l))
next_move rows a [] (b ∷ y) f e l = (b, refl, f.0)
next_move rows a (x ∷ q) [] f e l = absurd (omega (arith, l))
next_move rows a (x ∷ q) (b ∷ y) f e l =
    let same : b ≡ x = cc in
    let rest : take (length q) y ≡ q = cc in
    let follows : Follows rows x y = subst (λ z. Follows rows z y) same f.1 in
    let found = next_move rows x q y follows rest (omega (arith, l)) in
    (found.0, cc (same, found.1), found.2)

module _ (p : Problem) (y : List ℕ) (E : Type 0) where
  -- it holds if the path begins with the prefix
  abbrev pub LeadsTo : List ℕ → Type 0
  LeadsTo q = Extends p q y → E

  -- what begins with a prefix that is shorter than the horizon begins with one of its children
  pub from_children : (q : List ℕ) → length q < p.horizon → All LeadsTo (children_of p q) → LeadsTo q
  from_children q short below x =
      let next = next_move p.moves p.start q y x.path.follows x.front (omega (arith, short, x.path.whole)) in
      All-contains LeadsTo _ _ below (Contains-map (λ b. q ++ b ∷ []) _ next.0 next.2) (record { path = x.path; front = next.1 })

module _ (p : Problem) (P : List ℕ → Type 0) where
  -- where the property holds of all prefixes that a record opens, it holds of the record's prefix
  abbrev pub PassesOn : TreeNode → Type 0
  PassesOn r = All P (opened_by p r.prefix r.kind) → P r.prefix

  -- what all records of some trees pass on holds of the prefixes of these trees
  pub along_tree : (qs : List (List ℕ)) (rs : List TreeNode) → AreInPlace p qs rs → All PassesOn rs → All P qs
  along_tree [] rs placed on = All-nil P
  along_tree (q ∷ qs) [] placed on = absurd placed
  along_tree (q ∷ qs) (r ∷ rs) placed on =
      let rest = along_tree (opened_by p q r.kind ++ qs) rs placed.1 (All-tail PassesOn r rs on) in
      let opened = subst (λ (x : List ℕ). All P (opened_by p x r.kind)) (sym placed.0) (All-front P (opened_by p q r.kind) qs rest) in
      All-cons P q qs (subst P placed.0 (All-head PassesOn r rs on opened)) (All-back P (opened_by p q r.kind) qs rest)
