-- An accepted plan can be written.
use Rattle.std.proofs.Common.{ℕ, ◌≡◌, ◌≤◌, ◌<◌, ◌-◌, List, [], ◌∷◌, ◌++◌, length, take, sym, subst, arith, All}
use Rattle.std.specs.Prelude.{slice_index}
use Rattle.std.proofs.lemmas.List.Elements.{All-nil, All-cons, All-head, All-tail, All-append}
use Rattle.list_laws.proofs.Halves.{All-back}
use Rattle.search_model.specs.declared.standing.Standing.{Standing}
use Rattle.search_model.specs.Problem.{Problem, IsProblem}
use Rattle.search_model.specs.Legal.{Follows, IsLegal}
use Rattle.search_model.proofs.PlainSteps.{positions_follow}
use Rattle.bound_tree.specs.declared.node.Kind.{Kind}
use Rattle.bound_tree.specs.declared.node.Kind.TheVariants.{Branch, Whole, Mean, Tangent, Edge, Exchange, TwoLooks}
use Rattle.bound_tree.specs.declared.node.TreeNode.{TreeNode}
use Rattle.bound_tree.specs.declared.plan.Plan.{Plan}
use Rattle.bound_tree.specs.Accepts.{IsGoodKind, expected_by, AreEaten, Accepts}
use Rattle.bound_tree.specs.Exchanges.{exchanged}
use Rattle.bound_tree.proofs.Rooms.{legal_expected}
use Rattle.bound_tree.proofs.Placing.{eaten_are_in_place}
use Rattle.bound_tree.specs.Places.{AreInPlace}
use Rattle.tree_format.specs.PlanText.{ArePositions, IsPrintableKind, IsPrintableRecord, IsPrintable}
use Rattle.bound_tree.specs.declared.tree.TheConstants.{MOST_NODES}

module _ (p : Problem) (sound : IsProblem p) (s : Standing) where
  pub follows_positions : (q : List ℕ) → Follows p.moves p.start q → ArePositions p q
  follows_positions q follows = positions_follow p sound p.start (omega (arith, sound.start, sound.grid_positions)) q follows

  pub kind_printable : (q : List ℕ) (kind : Kind) → IsGoodKind p s q kind → IsPrintableKind p kind
  kind_printable q Branch good = tt
  kind_printable q (Whole n) good = tt
  kind_printable q (Mean b) good = tt
  kind_printable q (Tangent b whole) good = let path = good.1.2.path in (follows_positions whole path.follows, path.whole)
  kind_printable q (Edge b) good = tt
  kind_printable q (Exchange b u) good =
      let last : List ℕ = slice_index q (length q - 1) ∷ [] in
      let places = follows_positions (exchanged u q) good.1.legal.follows in
      All-head (λ a. a < p.positions) u last (All-back (λ a. a < p.positions) (take (length q - 2) q) (u ∷ last) places)
  kind_printable q (TwoLooks b) good = tt

  -- a branch that is good is shorter than the horizon
  branch_is_short : (q : List ℕ) (kind : Kind) → IsGoodKind p s q kind → kind ≡ Branch → length q < p.horizon
  branch_is_short q Branch good e = good
  branch_is_short q (Whole n) good e = let bad : ⊥ = cc in absurd bad
  branch_is_short q (Mean b) good e = let bad : ⊥ = cc in absurd bad
  branch_is_short q (Tangent b whole) good e = let bad : ⊥ = cc in absurd bad
  branch_is_short q (Edge b) good e = let bad : ⊥ = cc in absurd bad
  branch_is_short q (Exchange b u) good e = let bad : ⊥ = cc in absurd bad
  branch_is_short q (TwoLooks b) good e = let bad : ⊥ = cc in absurd bad

  -- records that are eaten can be written
  eaten_printable : (qs : List (List ℕ)) (rs : List TreeNode) → All (IsLegal p) qs → AreEaten p s qs rs → All (IsPrintableRecord p) rs
  eaten_printable [] [] legal eaten = All-nil (IsPrintableRecord p)
  eaten_printable [] (r ∷ rs) legal eaten = absurd eaten
  eaten_printable (q ∷ qs) [] legal eaten = absurd eaten
  eaten_printable (q ∷ qs) (r ∷ rs) legal eaten =
      let here : IsLegal p r.prefix = subst (IsLegal p) (sym eaten.0) (All-head (IsLegal p) q qs legal) in
      let more = All-append (IsLegal p) (expected_by p r.prefix r.kind) qs (legal_expected p r.prefix r.kind here (branch_is_short r.prefix r.kind eaten.1)) (All-tail (IsLegal p) q qs legal) in
      All-cons (IsPrintableRecord p) r rs
      (record { positions = follows_positions r.prefix here.follows; short = here.short; kind = kind_printable r.prefix r.kind eaten.1 })
      (eaten_printable (expected_by p r.prefix r.kind ++ qs) rs more eaten.2)

pub accepted_printable : (p : Problem) (plan : Plan) → IsProblem p → Accepts p plan → length plan.tree ≤ MOST_NODES → IsPrintable p plan
accepted_printable p plan sound accepts few =
    let empty : IsLegal p [] = record { follows = tt; short = omega arith } in
    record {
      some = omega (arith, accepts.path.whole, sound.horizon);
      short = omega (arith, accepts.path.whole, sound.horizon);
      positions = follows_positions p sound plan.standing plan.standing.path accepts.path.follows;
      few = few;
      records = eaten_printable p sound plan.standing ([] ∷ []) plan.tree (All-cons (IsLegal p) [] [] empty (All-nil (IsLegal p))) accepts.tree;
    }

pub accepted_in_place : (p : Problem) (plan : Plan) → Accepts p plan → AreInPlace p ([] ∷ []) plan.tree
accepted_in_place p plan accepts = eaten_are_in_place p plan.standing ([] ∷ []) plan.tree accepts.tree
