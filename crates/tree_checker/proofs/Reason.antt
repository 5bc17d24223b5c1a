-- There is no reason against a plan or gap plan exactly where it is accepted.
use Rattle.std.proofs.Common.{◌≡◌, ◌↔◌, ℕ, ◌+◌, ◌<◌, ◌==◌, Bool, true, false, not, List, [], ◌∷◌, ◌++◌, map, length, Option, Some, None, refl, sym, ap, ◌∙◌, subst, All, ltb-true, lt-ltb, eqb-true, eq-eqb, if◌then◌else◌, Result, Ok, Err, IfOk, IsTrue, Decides, slice_index, ◌-◌}
use Rattle.std.specs.Prelude.{nat_lt}
use Rattle.std.specs.Option.{option_or, option_map}
use Rattle.std.proofs.lemmas.Bool.{not-true, and_parts, and_from, true≢false, leb-true, le-leb, ne_eqb}
use Rattle.std.proofs.lemmas.List.Elements.{All-nil, All-cons, All-head, All-tail}
use Rattle.search_model.specs.declared.standing.Standing.{Standing}
use Rattle.search_model.specs.Problem.{Problem}
use Rattle.search_model.specs.Legal.{IsPath}
use Rattle.search_model.specs.Tracks.{value_of, whole_weight}
use Rattle.search_model.specs.Order.{smaller}
use Rattle.search_model.specs.Bounds.{greatest, mean_of, IsRate, tangent_of}
use Rattle.search_model.specs.Edge.{edge_of}
use Rattle.search_model.specs.Exchange.{exchange_of}
use Rattle.search_model.specs.Memory.{remembering_of}
use Rattle.search_model.proofs.Orders.{smaller_irreflexive, same_from_neither}
use Rattle.bound_tree.specs.declared.node.Kind.{Kind}
use Rattle.bound_tree.specs.declared.node.Kind.TheVariants.{Branch, Whole, Mean, Tangent, Edge, Exchange, TwoLooks}
use Rattle.bound_tree.specs.declared.plan.Plan.{Plan}
use Rattle.bound_tree.specs.declared.gap.Numbers.{Numbers}
use Rattle.bound_tree.specs.declared.gap.Numbers.TheVariants.{Means}
use Rattle.bound_tree.specs.declared.gap.GapKind.{GapKind}
use Rattle.bound_tree.specs.declared.gap.GapKind.TheVariants.{Closed, Waiting}
use Rattle.bound_tree.specs.declared.gap.GapNode.{GapNode}
use Rattle.bound_tree.specs.declared.gap.GapPlan.{GapPlan}
use Rattle.bound_tree.specs.Cut.{is_cut, times}
use Rattle.bound_tree.specs.Close.{IsExact}
use Rattle.bound_tree.specs.Asked.{HasTwoLooks}
use Rattle.bound_tree.specs.Exchanges.{HasExchanges, TakesPlace, exchanged}
use Rattle.bound_tree.specs.Accepts.{Extends, IsGoodKind, expected_by, Accepts}
use Rattle.bound_tree.specs.Places.{opened_by, AreInPlace}
use Rattle.bound_tree.specs.Gaps.{shape_of_kind, shape_of, ceiling_of, IsGoodOpenKind, IsGoodOpen, open_numbers, gap_of, GapAccepts}
use Rattle.bound_tree.proofs.Placing.{opened_by_good, nothing_either_way}
use Rattle.bound_tree.proofs.Ceilings.{plan_is_gap_plan}
use Rattle.tree_checker.specs.declared.verdict.Why.{Why}
use Rattle.tree_checker.specs.declared.verdict.RejectAt.{RejectAt}
use Rattle.tree_checker.specs.declared.verdict.Verdict.{Verdict}
use Rattle.tree_checker.specs.declared.verdict.Verdict.TheVariants.{Accepted}
use Rattle.tree_checker.specs.declared.gap_verdict.GapWhy.{GapWhy}
use Rattle.tree_checker.specs.declared.gap_verdict.GapWhy.TheVariants.{Plain, CeilingWrong}
use Rattle.tree_checker.specs.declared.gap_verdict.GapRejectAt.{GapRejectAt}
use Rattle.tree_checker.specs.declared.gap_verdict.GapVerdict.{GapVerdict}
use Rattle.tree_checker.specs.declared.gap_verdict.GapVerdict.TheVariants as gaps
use Rattle.tree_checker.specs.Rate.{one_rate_of}
use Rattle.tree_checker.specs.Reasons.{Test, first_failed, path_tests, value_tests, tangent_tests, has_exchanges, has_two_looks, takes_place, exchange_tests, kind_tests, plain_test, open_tests, node_tests, at_line, head_reason, next_reason, expected_past, nodes_reason, ceiling_reason, reason_from, as_plain, first_reason, verdict_of}
use Rattle.tree_checker.specs.GapReasons.{gap_reason, gap_verdict_of}
use Rattle.tree_checker.specs.Laws.{AcceptedWithNoReason, GapAcceptedWithNoReason}
use Rattle.tree_checker.proofs.Paths.{is_path-Decides, is_legal-Decides, starts-Decides}
use Rattle.tree_checker.proofs.Rates.{finds_one_rate}

abbrev pub AllTrue : {W : Type 0} → List (Bool × W) → Type 0
AllTrue [] = Unit {0}
AllTrue (t ∷ ts) = (t.0 ≡ true) × AllTrue ts

step_true : {W : Type 0} (b : Bool) (w : Option W) (v : W) → (if b then w else Some v) ≡ None → (b ≡ true) × (w ≡ None)
step_true true w v h = (refl, h)
step_true false w v h = cc

-- where no test fails, each holds
pub all_true : {W : Type 0} (ts : List (Bool × W)) → first_failed ts ≡ None → AllTrue ts
all_true [] h = tt
all_true (t ∷ ts) h = let step = step_true t.0 (first_failed ts) t.1 h in (step.0, all_true ts step.1)

pub none_failed : {W : Type 0} (ts : List (Bool × W)) → AllTrue ts → first_failed ts ≡ None
none_failed [] h = refl
none_failed (t ∷ ts) h = rw h.0 (none_failed ts h.1)

none_at : (line : ℕ) (w : Option GapWhy) → at_line line w ≡ None → w ≡ None
none_at line None h = refl
none_at line (Some w) h = cc

pub both_none : {R : Type 0} (first later : Option R) → option_or first later ≡ None → (first ≡ None) × (later ≡ None)
both_none None later h = (refl, h)
both_none (Some r) later h = cc

-- Tests of a plan among those of a gap plan.

plain_one : (b : Bool) (w : Why) (more : Option GapWhy) (rest : Option Why) → more ≡ option_map (λ v. Plain v) rest → (if b then more else Some (Plain w)) ≡ option_map (λ v. Plain v) (if b then rest else Some w)
plain_one true w more rest h = h
plain_one false w more rest h = refl

-- of a plan's tests the same fails first
pub plain_first : (ts : List Test) → first_failed (map plain_test ts) ≡ option_map (λ w. Plain w) (first_failed ts)
plain_first [] = refl
plain_first (t ∷ ts) = plain_one t.0 t.1 (first_failed (map plain_test ts)) (first_failed ts) (plain_first ts)

plain_true : (ts : List Test) → AllTrue (map plain_test ts) → AllTrue ts
plain_true [] h = tt
plain_true (t ∷ ts) h = (h.0, plain_true ts h.1)

true_plain : (ts : List Test) → AllTrue ts → AllTrue (map plain_test ts)
true_plain [] h = tt
true_plain (t ∷ ts) h = (h.0, true_plain ts h.1)

module _ (p : Problem) (s : Standing) where
  -- a tangent that passes its tests, with the one rate that there may be, is good
  good_tangent : (q : List ℕ) (b : ℕ) (whole : List ℕ) (found : Option ℕ) → one_rate_of p ≡ found → AllTrue (tangent_tests p s q b whole found) →
      ((rate : ℕ) × IsRate p rate × Extends p q whole × (b ≡ tangent_of p rate q whole)) × IsTrue (is_cut b q (times p.sweep.denominator s))
  good_tangent q b whole None is h = absurd (true≢false (sym h.0))
  good_tangent q b whole (Some rate) is h =
      let reference = and_parts _ _ h.0 in
      let extends : Extends p q whole = record { path = (is_path-Decides p whole).0 reference.0; front = (starts-Decides q whole).0 reference.1 } in
      ((rate, (finds_one_rate p rate).0 is, extends, eqb-true b (tangent_of p rate q whole) h.1.0), h.1.1.0)

  tangent_good : (q : List ℕ) (b : ℕ) (whole : List ℕ) → ((rate : ℕ) × IsRate p rate × Extends p q whole × (b ≡ tangent_of p rate q whole)) →
      IsTrue (is_cut b q (times p.sweep.denominator s)) → AllTrue (tangent_tests p s q b whole (one_rate_of p))
  tangent_good q b whole (rate, is, extends, bound) cut =
      let found = (finds_one_rate p rate).1 is in
      let reference = and_from _ _ ((is_path-Decides p whole).1 extends.path) ((starts-Decides q whole).1 extends.front) in
      subst (λ o. AllTrue (tangent_tests p s q b whole o)) (sym found) (reference, (eq-eqb b (tangent_of p rate q whole) bound, (cut, tt)))

  -- the test of whether a prefix has exchanges tells
  has_exchanges-Decides : (q : List ℕ) → Decides (has_exchanges p q) (HasExchanges p q)
  has_exchanges-Decides q = (
    (λ h.
        let parts = and_parts _ _ h in
        let least = and_parts _ _ parts.0 in
        record { periods = leb-true 4 p.horizon least.0; long = leb-true 2 (length q) least.1; short = ltb-true (length q) p.horizon parts.1 }),
    (λ x. and_from _ _ (and_from _ _ (le-leb 4 p.horizon x.periods) (le-leb 2 (length q) x.long)) (lt-ltb (length q) p.horizon x.short)),
  )

  -- and that of whether it is asked for its bound of two looks
  has_two_looks-Decides : (q : List ℕ) → Decides (has_two_looks p q) (HasTwoLooks p q)
  has_two_looks-Decides q = (
    (λ h. let parts = and_parts _ _ h in record { periods = leb-true 4 p.horizon parts.0; short = ltb-true (length q) p.horizon parts.1 }),
    (λ x. and_from _ _ (le-leb 4 p.horizon x.periods) (lt-ltb (length q) p.horizon x.short)),
  )

  -- and that of whether a position may take the place of the last but one
  takes_place-Decides : (q : List ℕ) (u : ℕ) → Decides (takes_place p q u) (TakesPlace p q u)
  takes_place-Decides q u =
      let old : ℕ = slice_index q (length q - 2) in (
        (λ h.
            let parts = and_parts _ _ h in
            record { other = λ same. true≢false (sym (eq-eqb u old same) ∙ not-true _ parts.0); legal = (is_legal-Decides p (exchanged u q)).0 parts.1 }),
        (λ x. and_from _ _ (ap not (ne_eqb u old x.other)) ((is_legal-Decides p (exchanged u q)).1 x.legal)),
      )

  -- so an exchange passes its tests exactly where it is good
  good_exchange : (q : List ℕ) (b u : ℕ) → AllTrue (exchange_tests p q b u) → IsGoodKind p s q (Exchange b u)
  good_exchange q b u h =
      ((has_exchanges-Decides q).0 h.0, (takes_place-Decides q u).0 h.1.0, eqb-true b (exchange_of p q (exchanged u q)) h.1.1.0, h.1.1.1.0)

  exchange_good : (q : List ℕ) (b u : ℕ) → IsGoodKind p s q (Exchange b u) → AllTrue (exchange_tests p q b u)
  exchange_good q b u (asked, takes, bound, cut) =
      ((has_exchanges-Decides q).1 asked, ((takes_place-Decides q u).1 takes, (eq-eqb b (exchange_of p q (exchanged u q)) bound, (cut, tt))))

  pub good_kind : (q : List ℕ) (kind : Kind) → AllTrue (kind_tests p s q kind) → IsGoodKind p s q kind
  good_kind q Branch h = ltb-true (length q) p.horizon h.0
  good_kind q (Whole n) h = (eqb-true (length q) p.horizon h.0, eqb-true n (value_of p q) h.1.0, not-true _ h.1.1.0)
  good_kind q (Mean b) h = (ltb-true (length q) p.horizon h.0, eqb-true b (mean_of p q) h.1.0, h.1.1.0)
  good_kind q (Tangent b whole) h =
      let tangent = good_tangent q b whole (one_rate_of p) refl h.1 in
      (ltb-true (length q) p.horizon h.0, tangent.0, tangent.1)
  good_kind q (Edge b) h = (ltb-true (length q) p.horizon h.0, eqb-true b (edge_of p q) h.1.0, h.1.1.0)
  good_kind q (Exchange b u) h = good_exchange q b u h
  good_kind q (TwoLooks b) h = ((has_two_looks-Decides q).0 h.0, eqb-true b (remembering_of p 2 q) h.1.0, h.1.1.0)

  pub kind_good : (q : List ℕ) (kind : Kind) → IsGoodKind p s q kind → AllTrue (kind_tests p s q kind)
  kind_good q Branch h = (lt-ltb (length q) p.horizon h, tt)
  kind_good q (Whole n) h = (eq-eqb (length q) p.horizon h.0, (eq-eqb n (value_of p q) h.1, (ap not h.2, tt)))
  kind_good q (Mean b) h = (lt-ltb (length q) p.horizon h.0, (eq-eqb b (mean_of p q) h.1, (h.2, tt)))
  kind_good q (Tangent b whole) h = (lt-ltb (length q) p.horizon h.0, tangent_good q b whole h.1 h.2)
  kind_good q (Edge b) h = (lt-ltb (length q) p.horizon h.0, (eq-eqb b (edge_of p q) h.1, (h.2, tt)))
  kind_good q (Exchange b u) h = exchange_good q b u h
  kind_good q (TwoLooks b) h = ((has_two_looks-Decides q).1 h.0, (eq-eqb b (remembering_of p 2 q) h.1, (h.2, tt)))

  -- a branch that passes its tests is shorter than the horizon
  pub short_branch : (q : List ℕ) (kind : Kind) → AllTrue (kind_tests p s q kind) → kind ≡ Branch → length q < p.horizon
  short_branch q Branch h e = ltb-true (length q) p.horizon h.0
  short_branch q (Whole n) h e = cc
  short_branch q (Mean b) h e = cc
  short_branch q (Tangent b whole) h e = cc
  short_branch q (Edge b) h e = cc
  short_branch q (Exchange b u) h e = cc
  short_branch q (TwoLooks b) h e = cc

module _ (numbers : Numbers) (p : Problem) (s : Standing) where
  good_open : (q : List ℕ) (kind : GapKind) → AllTrue (open_tests numbers p s q kind) → IsGoodOpenKind numbers p s q kind
  good_open q (Closed kind) h = good_kind p s q kind (plain_true (kind_tests p s q kind) h)
  good_open q (Waiting n) h = eqb-true n (ceiling_of numbers p q) h.0

  open_good : (q : List ℕ) (kind : GapKind) → IsGoodOpenKind numbers p s q kind → AllTrue (open_tests numbers p s q kind)
  open_good q (Closed kind) h = true_plain (kind_tests p s q kind) (kind_good p s q kind h)
  open_good q (Waiting n) h = (eq-eqb n (ceiling_of numbers p q) h, tt)

  short_open : (q : List ℕ) (kind : GapKind) → AllTrue (open_tests numbers p s q kind) → shape_of_kind kind ≡ Branch → length q < p.horizon
  short_open q (Closed kind) h e = short_branch p s q kind (plain_true (kind_tests p s q kind) h) e
  short_open q (Waiting n) h e = cc

  -- a branch that passes its tests is shorter than the horizon
  pub branch_is_short : (q : List ℕ) (node : GapNode) → first_failed (node_tests numbers p s q node) ≡ None → shape_of_kind node.kind ≡ Branch → length q < p.horizon
  branch_is_short q node h e = short_open q node.kind (all_true (node_tests numbers p s q node) h).1.1 e

  -- a good node makes the same expected whether its length is asked for or not
  opened_by_open : (q : List ℕ) (kind : GapKind) → IsGoodOpenKind numbers p s q kind → opened_by p q (shape_of_kind kind) ≡ expected_by p q (shape_of_kind kind)
  opened_by_open q (Closed kind) good = opened_by_good p s q kind good
  opened_by_open q (Waiting n) good = nothing_either_way (nat_lt (length q) p.horizon)

  -- a node that passes its tests has the prefix that is expected, and is good there
  right_node : (q : List ℕ) (node : GapNode) → first_failed (node_tests numbers p s q node) ≡ None → (node.prefix ≡ q) × IsGoodOpenKind numbers p s q node.kind
  right_node q node h =
      let tests = all_true (node_tests numbers p s q node) h in
      (same_from_neither node.prefix q (not-true (smaller node.prefix q) tests.1.0) (not-true (smaller q node.prefix) tests.0), good_open q node.kind tests.1.1)

  node_right : (q : List ℕ) (node : GapNode) → node.prefix ≡ q → IsGoodOpenKind numbers p s q node.kind → first_failed (node_tests numbers p s q node) ≡ None
  node_right q node same good =
      let neither : (z : List ℕ) → z ≡ q → (smaller q z ≡ false) × (smaller z q ≡ false) = λ z e. rw e (smaller_irreflexive q, smaller_irreflexive q) in
      let order = neither node.prefix same in
      none_failed (node_tests numbers p s q node) (ap not order.0, (ap not order.1, open_good q node.kind good))

  placed_and_good : (line : ℕ) (nodes : List GapNode) (qs : List (List ℕ)) → nodes_reason numbers p s line nodes qs ≡ None → AreInPlace p qs (map shape_of nodes) × All (IsGoodOpen numbers p s) nodes
  placed_and_good line [] [] h = (tt, All-nil (IsGoodOpen numbers p s))
  placed_and_good line [] (q ∷ qs) h = cc
  placed_and_good line (node ∷ nodes) [] h = cc
  placed_and_good line (node ∷ nodes) (q ∷ qs) h =
      let parts = both_none (at_line line (next_reason numbers p s (q ∷ qs) node)) (nodes_reason numbers p s (line + 1) nodes (expected_past p (q ∷ qs) node)) h in
      let right = right_node q node (none_at line _ parts.0) in
      let rest = placed_and_good (line + 1) nodes (expected_past p (q ∷ qs) node) parts.1 in (
        (right.0, subst (λ (xs : List (List ℕ)). AreInPlace p (xs ++ qs) (map shape_of nodes)) (sym (opened_by_open q node.kind right.1)) rest.0),
        All-cons (IsGoodOpen numbers p s) node nodes (subst (λ (z : List ℕ). IsGoodOpenKind numbers p s z node.kind) (sym right.0) right.1) rest.1,
      )

  no_fault : (line : ℕ) (nodes : List GapNode) (qs : List (List ℕ)) → AreInPlace p qs (map shape_of nodes) → All (IsGoodOpen numbers p s) nodes → nodes_reason numbers p s line nodes qs ≡ None
  no_fault line [] [] placed good = refl
  no_fault line [] (q ∷ qs) placed good = absurd placed
  no_fault line (node ∷ nodes) [] placed good = absurd placed
  no_fault line (node ∷ nodes) (q ∷ qs) placed good =
      let here : IsGoodOpenKind numbers p s q node.kind = subst (λ (z : List ℕ). IsGoodOpenKind numbers p s z node.kind) placed.0 (All-head (IsGoodOpen numbers p s) node nodes good) in
      let later = subst (λ (xs : List (List ℕ)). AreInPlace p (xs ++ qs) (map shape_of nodes)) (opened_by_open q node.kind here) placed.1 in
      let rest = nodes_reason numbers p s (line + 1) nodes (expected_past p (q ∷ qs) node) in
      ap (λ (o : Option GapWhy). option_or (at_line line o) rest) (node_right q node placed.0 here)
      ∙ no_fault (line + 1) nodes (expected_past p (q ∷ qs) node) later (All-tail (IsGoodOpen numbers p s) node nodes good)

-- where there is no reason against the head, the path is a path with its value, and the weight is the whole weight
pub head_right : (p : Problem) (s : Standing) (weight : ℕ) → head_reason p s weight ≡ None → IsExact p s × (weight ≡ whole_weight p)
head_right p s weight h =
    let path = at_line 2 (first_failed (map plain_test (path_tests p s.path))) in
    let values = at_line 3 (first_failed (map plain_test (value_tests p s weight))) in
    let head = both_none path values h in
    let legal = plain_true (path_tests p s.path) (all_true (map plain_test (path_tests p s.path)) (none_at 2 _ head.0)) in
    let right = plain_true (value_tests p s weight) (all_true (map plain_test (value_tests p s weight)) (none_at 3 _ head.1)) in (
      record { path = (is_path-Decides p s.path).0 legal.0; value = eqb-true s.value (value_of p s.path) right.0 },
      eqb-true weight (whole_weight p) right.1.0,
    )

-- and the other way round
pub right_head : (p : Problem) (s : Standing) (weight : ℕ) → IsPath p s.path → s.value ≡ value_of p s.path → weight ≡ whole_weight p → head_reason p s weight ≡ None
right_head p s weight path value whole =
    let legal = none_failed (map plain_test (path_tests p s.path)) ((is_path-Decides p s.path).1 path, tt) in
    let right = none_failed (map plain_test (value_tests p s weight)) (eq-eqb s.value (value_of p s.path) value, (eq-eqb weight (whole_weight p) whole, tt)) in
    rw (legal, right) refl

-- there is no reason against a gap plan exactly where it is accepted, whatever line its first node stands at
pub no_reason_from : (line : ℕ) (p : Problem) (plan : GapPlan) → (reason_from line p plan ≡ None) ↔ GapAccepts p plan
no_reason_from line p plan =
    let s : Standing = plan.standing in
    let nodes = nodes_reason plan.numbers p s line plan.nodes ([] ∷ []) in
    let numbers : List ℕ = s.value ∷ open_numbers plan.nodes in
    let ceiling = ceiling_reason plan.ceiling numbers in
    let tests : List (Bool × GapWhy) = (plan.ceiling == greatest numbers, CeilingWrong) ∷ [] in (
      (λ h.
          let parts = both_none (head_reason p s plan.weight) (option_or nodes ceiling) h in
          let head = head_right p s plan.weight parts.0 in
          let rest = both_none nodes ceiling parts.1 in
          let right = placed_and_good plan.numbers p s line plan.nodes ([] ∷ []) rest.0 in
          record {
            path = head.0.path;
            value = head.0.value;
            weight = head.1;
            placed = right.0;
            good = right.1;
            ceiling = eqb-true plan.ceiling (greatest numbers) (all_true tests (none_at 4 (first_failed tests) rest.1)).0;
          }),
      (λ a.
          ap (λ (o : Option GapRejectAt). option_or o (option_or nodes ceiling)) (right_head p s plan.weight a.path a.value a.weight)
          ∙ ap (λ (o : Option GapRejectAt). option_or o ceiling) (no_fault plan.numbers p s line plan.nodes ([] ∷ []) a.placed a.good)
          ∙ ap (λ (o : Option GapWhy). at_line 4 o) (none_failed tests (eq-eqb plan.ceiling (greatest numbers) a.ceiling, tt))),
    )

pub no_reason_is_accepted_gap : GapAcceptedWithNoReason
no_reason_is_accepted_gap p plan = no_reason_from 6 p plan

none_told : (r : Option GapRejectAt) → option_map as_plain r ≡ None → r ≡ None
none_told None h = refl
none_told (Some r) h = cc

pub no_reason_is_accepted : AcceptedWithNoReason
no_reason_is_accepted p plan =
    let none = no_reason_from 5 p (gap_of Means plan) in
    let same = plan_is_gap_plan Means p plan in
    (λ h. same.1 (none.0 (none_told (reason_from 5 p (gap_of Means plan)) h)), λ a. ap (option_map as_plain) (none.1 (same.0 a)))

gap_verdict_is : (reason : Option GapRejectAt) (P : Type 0) → (reason ≡ None) ↔ P → (gap_verdict_of reason ≡ gaps.Accepted) ↔ P
gap_verdict_is None P h = (λ _. h.0 refl, λ _. refl)
gap_verdict_is (Some r) P h = (λ e. absurd (let no : ⊥ = cc in no), λ x. absurd (let e = h.1 x in let no : ⊥ = cc in no))

pub accepted_gap_verdict : {E : Type 0} (p : Problem) (plan : GapPlan) (r : Result GapVerdict E) →
    IfOk r (λ v. v ≡ gap_verdict_of (gap_reason p plan)) → IfOk r (λ v. (v ≡ gaps.Accepted) ↔ GapAccepts p plan)
accepted_gap_verdict p plan (Ok v) h = rw h (gap_verdict_is (gap_reason p plan) (GapAccepts p plan) (no_reason_is_accepted_gap p plan))
accepted_gap_verdict p plan (Err e) h = tt

verdict_is : (reason : Option RejectAt) (P : Type 0) → (reason ≡ None) ↔ P → (verdict_of reason ≡ Accepted) ↔ P
verdict_is None P h = (λ _. h.0 refl, λ _. refl)
verdict_is (Some r) P h = (λ e. absurd (let no : ⊥ = cc in no), λ x. absurd (let e = h.1 x in let no : ⊥ = cc in no))

pub accepted_verdict : {E : Type 0} (p : Problem) (plan : Plan) (r : Result Verdict E) →
    IfOk r (λ v. v ≡ verdict_of (first_reason p plan)) → IfOk r (λ v. (v ≡ Accepted) ↔ Accepts p plan)
accepted_verdict p plan (Ok v) h = rw h (verdict_is (first_reason p plan) (Accepts p plan) (no_reason_is_accepted p plan))
accepted_verdict p plan (Err e) h = tt
