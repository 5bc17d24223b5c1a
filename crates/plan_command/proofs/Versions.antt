-- The dialects in which plans and gap plans of a problem are written, and that they have letters for all that is accepted.
use Rattle.std.proofs.Common.{ℕ, ◌≡◌, ◌≤◌, Bool, true, false, cond, List, [], ◌∷◌, ◌++◌, Err, refl, sym, ap, subst, ◌∙◌, arith}
use Rattle.std.specs.Prelude.{nat_lt}
use Rattle.std.proofs.lemmas.Bool.{ltb-true}
use Rattle.std.proofs.lemmas.List.Elements.{All-weaker}
use Rattle.search_model.specs.declared.standing.Standing.{Standing}
use Rattle.search_model.specs.Problem.{Problem}
use Rattle.bound_tree.specs.declared.node.Kind.{Kind}
use Rattle.bound_tree.specs.declared.node.Kind.TheVariants.{Branch, Whole, Mean, Tangent, Edge, Exchange, TwoLooks}
use Rattle.bound_tree.specs.declared.plan.Plan.{Plan}
use Rattle.bound_tree.specs.declared.gap.GapKind.{GapKind}
use Rattle.bound_tree.specs.declared.gap.GapKind.TheVariants.{Closed, Waiting}
use Rattle.bound_tree.specs.declared.gap.GapPlan.{GapPlan}
use Rattle.bound_tree.specs.declared.gap.Numbers.{Numbers}
use Rattle.bound_tree.specs.declared.gap.Numbers.TheVariants.{Means, Edges}
use Rattle.bound_tree.specs.Accepts.{IsGoodKind, IsGood, Accepts}
use Rattle.bound_tree.specs.Gaps.{IsGoodOpenKind, IsGoodOpen, numbers_for, GapAccepts}
use Rattle.bound_tree.proofs.Placing.{eaten_is_placed_and_good}
use Rattle.tree_format.specs.declared.plan_line.Dialect.{Dialect}
use Rattle.tree_format.specs.declared.plan_line.Dialect.TheVariants.{PlanTwo, PlanThree}
use Rattle.tree_format.specs.declared.plan_line.Family.TheVariants.{Plans}
use Rattle.tree_format.specs.declared.plan_line.Prefixes.TheVariants.{LeftOut}
use Rattle.tree_format.specs.Dialects.{family_of, has_edges, has_exchanges, has_open, prefixes_in, dialect_with, plan_dialect_for}
use Rattle.tree_format.specs.PlanText.{HasLetter, HasNodeLetter, HasLetters, HasGapLetters, plan_text, IsTextOfPlan, IsWrittenPlan}
use Rattle.tree_format.specs.declared.kind.PlanFault.{PlanFault}
use Rattle.tree_format.specs.declared.stop.PlanStop.{PlanStop}
use Rattle.tree_format.specs.declared.stop.PlanStop.TheVariants.{Fault}
use Rattle.tree_format.specs.Gives.{Says}

-- a dialect that serves a problem: it leaves prefixes out, and has letters for edge bounds and, from horizon 4 on, for
-- exchanges and bounds that remember two looks
pub record Serves (v : Dialect) (p : Problem) : Type 0 where
  pub lean : prefixes_in v ≡ LeftOut
  pub edges : has_edges v ≡ true
  pub exchanges : 4 ≤ p.horizon → has_exchanges v ≡ true

-- that of plans does, and so does that of gap plans with the numbers of the problem
plan_serves_by : (p : Problem) (b : Bool) → nat_lt p.horizon 4 ≡ b → Serves (cond b PlanTwo PlanThree) p
plan_serves_by p true low = record { lean = refl; edges = refl; exchanges = λ high. absurd (omega (arith, ltb-true p.horizon 4 low, high)) }
plan_serves_by p false low = record { lean = refl; edges = refl; exchanges = λ high. refl }

gap_serves_by : (p : Problem) (b : Bool) → nat_lt p.horizon 4 ≡ b → Serves (dialect_with (cond b Means Edges)) p
gap_serves_by p true low = record { lean = refl; edges = refl; exchanges = λ high. absurd (omega (arith, ltb-true p.horizon 4 low, high)) }
gap_serves_by p false low = record { lean = refl; edges = refl; exchanges = λ high. refl }

pub plan_serves : (p : Problem) → Serves (plan_dialect_for p) p
plan_serves p = plan_serves_by p (nat_lt p.horizon 4) refl

pub gap_serves : (p : Problem) → Serves (dialect_with (numbers_for p)) p
gap_serves p = gap_serves_by p (nat_lt p.horizon 4) refl

-- what is written of a plan is its text in one of the dialects of plans
plans_either_way : (b : Bool) → family_of (cond b PlanTwo PlanThree) ≡ Plans
plans_either_way true = refl
plans_either_way false = refl

pub written_is_text : (p : Problem) (plan : Plan) (text : List ℕ) → IsWrittenPlan p plan text → IsTextOfPlan p plan text
written_is_text p plan text is = (plan_dialect_for p, plans_either_way (nat_lt p.horizon 4), is)

-- also as it stands in a vector that was empty
pub written_reads : (p : Problem) (plan : Plan) (empty out text : List ℕ) → empty ≡ [] → out ≡ empty ++ plan_text (plan_dialect_for p) p plan → text ≡ out →
    IsWrittenPlan p plan (plan_text (plan_dialect_for p) p plan) → IsTextOfPlan p plan text
written_reads p plan empty out text none appended same is =
    let whole = plan_text (plan_dialect_for p) p plan in
    subst (IsTextOfPlan p plan) (sym (same ∙ appended ∙ ap (λ (front : List ℕ). front ++ whole) none)) (written_is_text p plan whole is)

-- and it has no fault
pub no_fault_told : (plan : Plan) (stop : PlanStop) (fault : PlanFault) → stop ≡ Fault fault → Says (Err stop) plan → ⊥
no_fault_told plan stop fault is says = subst (λ (s : PlanStop). Says (Err s) plan) is says

module _ (v : Dialect) (p : Problem) (s : Standing) (serves : Serves v p) where
  -- a good record has a letter there
  kind_lettered : (q : List ℕ) (kind : Kind) → IsGoodKind p s q kind → HasLetter v kind
  kind_lettered q Branch good = tt
  kind_lettered q (Whole n) good = tt
  kind_lettered q (Mean b) good = tt
  kind_lettered q (Tangent b whole) good = tt
  kind_lettered q (Edge b) good = serves.edges
  kind_lettered q (Exchange b u) good = serves.exchanges good.0.periods
  kind_lettered q (TwoLooks b) good = serves.exchanges good.0.periods

  -- and so has a good node, where nodes may wait
  pub node_lettered : (n : Numbers) (q : List ℕ) (kind : GapKind) → has_open v ≡ true → IsGoodOpenKind n p s q kind → HasNodeLetter v kind
  node_lettered n q (Closed kind) opens good = kind_lettered q kind good
  node_lettered n q (Waiting number) opens good = opens

pub accepted_lettered : (v : Dialect) (p : Problem) (plan : Plan) → Serves v p → Accepts p plan → HasLetters v plan
accepted_lettered v p plan serves accepts =
    let good = ((eaten_is_placed_and_good p plan.standing ([] ∷ []) plan.tree).0 accepts.tree).1 in
    All-weaker (IsGood p plan.standing) (λ r. HasLetter v r.kind) (λ r here. kind_lettered v p plan.standing serves r.prefix r.kind here) plan.tree good

-- gap plans leave prefixes out, and their nodes may wait
pub gap_lean : (n : Numbers) → prefixes_in (dialect_with n) ≡ LeftOut
gap_lean Means = refl
gap_lean Edges = refl

gaps_wait : (n : Numbers) → has_open (dialect_with n) ≡ true
gaps_wait Means = refl
gaps_wait Edges = refl

pub gap_lettered : (p : Problem) (plan : GapPlan) → plan.numbers ≡ numbers_for p → GapAccepts p plan → HasGapLetters plan
gap_lettered p plan same accepts =
    let v = dialect_with plan.numbers in
    let serves = subst (λ (n : Numbers). Serves (dialect_with n) p) (sym same) (gap_serves p) in
    All-weaker (IsGoodOpen plan.numbers p plan.standing) (λ node. HasNodeLetter v node.kind)
    (λ node good. node_lettered v p plan.standing serves plan.numbers node.prefix node.kind (gaps_wait plan.numbers) good) plan.nodes accepts.good
