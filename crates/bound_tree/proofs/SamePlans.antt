-- A plan that is accepted for a problem is accepted for each problem that is the same search.
use Rattle.std.proofs.Common.{ℕ, ◌≡◌, inl, inr, List, [], ◌∷◌, ◌++◌, refl, sym, ◌∙◌, subst, arith, All}
use Rattle.std.proofs.lemmas.List.Elements.{All-nil, All-cons, All-head, All-tail, All-append}
use Rattle.search_model.specs.declared.standing.Standing.{Standing}
use Rattle.search_model.specs.Problem.{Problem, IsProblem}
use Rattle.search_model.specs.Same.{AreSame}
use Rattle.search_model.specs.Legal.{IsLegal}
use Rattle.bound_tree.specs.declared.node.Kind.{Kind}
use Rattle.bound_tree.specs.declared.node.Kind.TheVariants.{Branch, Whole, Mean, Tangent, Edge, Exchange, TwoLooks}
use Rattle.bound_tree.specs.declared.node.TreeNode.{TreeNode}
use Rattle.bound_tree.specs.Exchanges.{exchanged}
use Rattle.bound_tree.specs.Accepts.{IsGoodKind, expected_by, AreEaten}
use Rattle.bound_tree.proofs.Rooms.{branch_or_leaf, legal_expected}
use Rattle.bound_tree.proofs.StandIns.{exchanged-long}
use Rattle.bound_tree.proofs.SameStandIns.{asked_same, two_asked_same}
use Rattle.bound_tree.specs.Places.{opened_by, AreInPlace}
use Rattle.bound_tree.specs.SameLaws.{SameIsAlike, SameAccepts}
use Rattle.search_model.proofs.SameSearch.{AreSame-sym, legal_same, best_same, path_same, whole_same, rate_same, value_same_legal, reference_same, tangent_same, opening_same, path_legal}
use Rattle.search_model.proofs.SameExchanges.{exchange_same}
use Rattle.search_model.proofs.SameMemory.{mean_same, edge_same, remembering_same}

module _ (p o : Problem) (same : AreSame p o) where
  -- a record makes the same prefixes expected
  pub expected_same : (q : List ℕ) (kind : Kind) → expected_by p q kind ≡ expected_by o q kind
  expected_same q kind = elim (branch_or_leaf kind) [
    | inl branch ↦ rw (branch, same.moves, same.start) refl
    | inr leaf ↦ leaf p q ∙ sym (leaf o q)
  ]

  -- the same records are in place
  pub in_place_same : (qs : List (List ℕ)) (rs : List TreeNode) → AreInPlace p qs rs → AreInPlace o qs rs
  in_place_same [] [] h = tt
  in_place_same [] (r ∷ rs) h = h
  in_place_same (q ∷ qs) [] h = h
  in_place_same (q ∷ qs) (r ∷ rs) h =
      let opened : opened_by p q r.kind ≡ opened_by o q r.kind = rw (← expected_same q r.kind, same.horizon) refl in
      (h.0, in_place_same (opened_by o q r.kind ++ qs) rs (rw (← opened) h.1))

module _ (p o : Problem) (same : AreSame p o) (sound : IsProblem p) (s : Standing) where
  -- a record that is good is good there, too
  pub good_same : (q : List ℕ) (kind : Kind) → IsLegal p q → IsGoodKind p s q kind → IsGoodKind o s q kind
  good_same q Branch legal good = rw (← same.horizon) good
  good_same q (Whole n) legal good = (good.0 ∙ same.horizon, good.1 ∙ value_same_legal p o same sound q legal, good.2)
  good_same q (Mean b) legal good = (rw (← same.horizon) good.0, good.1 ∙ mean_same p o same sound q legal, good.2)
  good_same q (Tangent b whole) legal good =
      let (rate, is, extends, at) = good.1 in (
        rw (← same.horizon) good.0,
        (rate, rate_same p o same rate is, record { path = path_same p o same whole extends.path; front = extends.front }, at ∙ tangent_same p o same sound rate q whole legal extends.path),
        rw (← same.look_denominator) good.2,
      )
  good_same q (Edge b) legal good = (rw (← same.horizon) good.0, good.1 ∙ edge_same p o same sound q legal, good.2)
  good_same q (Exchange b u) legal good =
      let there = good.1.legal in (
        asked_same p o same q good.0,
        record { other = good.1.other; legal = legal_same p o same (exchanged u q) there },
        good.2 ∙ exchange_same p o same sound q (exchanged u q) legal there good.0.short (exchanged-long p q good.0.long u),
        rw (← value_same_legal p o same sound (exchanged u q) there) good.3,
      )
  good_same q (TwoLooks b) legal good = (two_asked_same p o same q good.0, good.1 ∙ remembering_same p o same sound 2 q legal, good.2)

  -- the same records are eaten
  eaten_same : (qs : List (List ℕ)) (rs : List TreeNode) → All (IsLegal p) qs → AreEaten p s qs rs → AreEaten o s qs rs
  eaten_same [] [] legal h = tt
  eaten_same [] (r ∷ rs) legal h = h
  eaten_same (q ∷ qs) [] legal h = h
  eaten_same (q ∷ qs) (r ∷ rs) legal h =
      let here : IsLegal p r.prefix = subst (IsLegal p) (sym h.0) (All-head (IsLegal p) q qs legal) in
      let more = expected_by p r.prefix r.kind in
      let next = All-append (IsLegal p) more qs (legal_expected p r.prefix r.kind here (λ is. subst (IsGoodKind p s r.prefix) is h.1)) (All-tail (IsLegal p) q qs legal) in
      (h.0, good_same r.prefix r.kind here h.1, rw (← expected_same p o same r.prefix r.kind) (eaten_same (more ++ qs) rs next h.2))

pub accepts_same : SameAccepts
accepts_same p o plan sound same a =
    let empty : IsLegal p [] = record { follows = tt; short = omega arith } in
    record {
      path = path_same p o same plan.standing.path a.path;
      value = a.value ∙ value_same_legal p o same sound plan.standing.path (path_legal p o same sound plan.standing.path a.path);
      weight = a.weight ∙ whole_same p o same;
      tree = eaten_same p o same sound plan.standing ([] ∷ []) plan.tree (All-cons (IsLegal p) [] [] empty (All-nil (IsLegal p))) a.tree;
    }

pub same_is_alike : SameIsAlike
same_is_alike p o sound same =
    let back = AreSame-sym p o same in
    record {
      legal = λ q. (legal_same p o same q, legal_same o p back q);
      paths = λ q. (path_same p o same q, path_same o p back q);
      best = best_same p o same sound;
      weight = whole_same p o same;
      values = value_same_legal p o same sound;
      means = mean_same p o same sound;
      edges = edge_same p o same sound;
      remembering = remembering_same p o same sound;
      exchanges = exchange_same p o same sound;
      rates = λ rate. (rate_same p o same rate, rate_same o p back rate);
      references = reference_same p o same sound;
      tangents = tangent_same p o same sound;
      openings = opening_same p o same sound;
    }
