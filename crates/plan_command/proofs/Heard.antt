-- What a checker heard of a plan, item by item, and what is kept of it.
use Rattle.std.proofs.Common.{ℕ, ◌≡◌, ◌+◌, ◌≤◌, inl, inr, Bool, true, false, List, [], ◌∷◌, ◌++◌, map, length, refl, sym, ap, ◌∙◌, subst, arith, append_assoc, append-nil, length-append}
use Rattle.std.proofs.lemmas.List.{map-append}
use Rattle.search_model.specs.declared.standing.Standing.{Standing}
use Rattle.search_model.specs.Problem.{Problem, IsProblem}
use Rattle.bound_tree.specs.declared.node.TreeNode.{TreeNode}
use Rattle.bound_tree.specs.declared.plan.Plan.{Plan}
use Rattle.bound_tree.specs.declared.gap.Numbers.{Numbers}
use Rattle.bound_tree.specs.declared.gap.GapNode.{GapNode}
use Rattle.bound_tree.specs.declared.gap.GapPlan.{GapPlan}
use Rattle.bound_tree.specs.Gaps.{shape_of}
use Rattle.tree_format.specs.declared.plan_item.PlanItem.{PlanItem}
use Rattle.tree_format.specs.declared.plan_item.PlanItem.TheVariants.{Head, Node, End}
use Rattle.tree_format.specs.Feeding.{items_of, Tells}
use Rattle.tree_format.specs.declared.plan_line.Family.{Family}
use Rattle.tree_format.specs.declared.plan_line.Family.TheVariants.{Plans, Gaps}
use Rattle.tree_format.specs.Dialects.{first_line, most_records}
use Rattle.tree_format.specs.declared.dialects.TheConstants.{MOST_GAP_NODES}
use Rattle.tree_format.proofs.FedLaws.{items_in_order}
use Rattle.tree_checker.specs.declared.tables.BoundTables.{BoundTables}
use Rattle.tree_checker.specs.Progress.{Progress, begun_at, gap_reason_if, gap_reason_at_end, IsUnderWay, IsMadeFor}
use Rattle.plan_command.specs.declared.hearing.Head.{Head as AHead}
use Rattle.plan_command.specs.Families.{reason_against}
use Rattle.plan_command.specs.Intakes.{nodes_in, records_kept, kept_of, LeadsToReason, HasHeard, IsNextItem}

-- The nodes among items.

nodes_in-append : (xs ys : List PlanItem) → nodes_in (xs ++ ys) ≡ nodes_in xs ++ nodes_in ys
nodes_in-append [] ys = refl
nodes_in-append (Head s w c b n ∷ xs) ys = nodes_in-append xs ys
nodes_in-append (Node r ∷ xs) ys = ap (λ (rs : List GapNode). r ∷ rs) (nodes_in-append xs ys)
nodes_in-append (End ∷ xs) ys = nodes_in-append xs ys

nodes_in-nodes : (rs : List GapNode) → nodes_in (map (λ r. Node r) rs) ≡ rs
nodes_in-nodes [] = refl
nodes_in-nodes (r ∷ rs) = ap (λ (more : List GapNode). r ∷ more) (nodes_in-nodes rs)

nodes_in-plan : (rs : List GapNode) → nodes_in (map (λ r. Node r) rs ++ End ∷ []) ≡ rs
nodes_in-plan rs = nodes_in-append (map (λ r. Node r) rs) (End ∷ []) ∙ append-nil _ ∙ nodes_in-nodes rs

-- the head of a standing, a weight, a ceiling and numbers, and the plan of it and of these nodes
abbrev head_of : Standing → ℕ → ℕ → Numbers → AHead
head_of s w c b = record { standing = s; weight = w; ceiling = c; numbers = b }

abbrev plan_with : Standing → ℕ → ℕ → Numbers → List GapNode → GapPlan
plan_with s w c b nodes = record { standing = s; weight = w; ceiling = c; numbers = b; nodes = nodes }

-- The head.

few_lines : (family : Family) → first_line family ≤ 6
few_lines Plans = omega arith
few_lines Gaps = omega arith

pub head_heard : (family : Family) (p : Problem) (s : Standing) (w c n : ℕ) (b : Numbers) (tables : BoundTables) (checker : Progress) → checker ≡ begun_at (first_line family) b p tables s w → IsUnderWay p checker → IsMadeFor p checker → HasHeard family p (Head s w c b n ∷ []) (head_of s w c b) checker
head_heard family p s w c n b tables checker begun under_way made = record {
  under_way = under_way;
  made_for = made;
  line = let line : checker.line ≡ first_line family = ap (λ (g : Progress). g.line) begun in let few = few_lines family in omega (arith, line, few);
  reason = (refl, λ later. ap (λ (g : Progress). gap_reason_if p g c later) begun);
}

-- One item more.

module _ (family : Family) (p : Problem) where
  leads_on : (told : List PlanItem) (r : GapNode) (head : AHead) (old new : Progress) → ((c : ℕ) (rs : List GapNode) → gap_reason_if p new c rs ≡ gap_reason_if p old c (r ∷ rs)) → LeadsToReason family p told head old → LeadsToReason family p (told ++ Node r ∷ []) head new
  leads_on [] r head old new next leads = tt
  leads_on (Head s w c b n ∷ more) r head old new next leads = (
    leads.0,
    λ later.
        let nodes : nodes_in more ++ r ∷ later ≡ nodes_in (more ++ Node r ∷ []) ++ later =
        sym (append_assoc (nodes_in more) (r ∷ []) later) ∙ ap (λ (rs : List GapNode). rs ++ later) (sym (nodes_in-append more (Node r ∷ []))) in
        next c later ∙ leads.1 (r ∷ later) ∙ ap (λ (rs : List GapNode). reason_against family p (plan_with s w c b rs)) nodes,
  )
  leads_on (Node q ∷ more) r head old new next leads = tt
  leads_on (End ∷ more) r head old new next leads = tt

  pub node_heard : (told : List PlanItem) (r : GapNode) (head : AHead) (old new : Progress) → HasHeard family p told head old →
      ((c : ℕ) (rs : List GapNode) → gap_reason_if p new c rs ≡ gap_reason_if p old c (r ∷ rs)) → IsUnderWay p new → new.line ≤ old.line + 1 → IsMadeFor p new → HasHeard family p (told ++ Node r ∷ []) head new
  node_heard told r head old new heard next under_way line made = record {
    under_way = under_way;
    made_for = made;
    line = let count : length (nodes_in (told ++ Node r ∷ [])) ≡ length (nodes_in told) + 1 = ap (λ (rs : List GapNode). length rs) (nodes_in-append told (Node r ∷ [])) ∙ length-append (nodes_in told) (r ∷ []) in omega (arith, count, line, heard.line);
    reason = leads_on told r head old new next heard.reason;
  }

  leads_still : (told : List PlanItem) (head : AHead) (checker : Progress) → LeadsToReason family p told head checker → LeadsToReason family p (told ++ End ∷ []) head checker
  leads_still [] head checker leads = tt
  leads_still (Head s w c b n ∷ more) head checker leads = (
    leads.0,
    λ later.
        let nodes : nodes_in more ++ later ≡ nodes_in (more ++ End ∷ []) ++ later = ap (λ (rs : List GapNode). rs ++ later) (sym (nodes_in-append more (End ∷ []) ∙ append-nil (nodes_in more))) in
        leads.1 later ∙ ap (λ (rs : List GapNode). reason_against family p (plan_with s w c b rs)) nodes,
  )
  leads_still (Node q ∷ more) head checker leads = tt
  leads_still (End ∷ more) head checker leads = tt

  pub end_heard : (told : List PlanItem) (head : AHead) (checker : Progress) → HasHeard family p told head checker → HasHeard family p (told ++ End ∷ []) head checker
  end_heard told head checker heard = record {
    under_way = heard.under_way;
    made_for = heard.made_for;
    line = let count : length (nodes_in (told ++ End ∷ [])) ≡ length (nodes_in told) = ap (λ (rs : List GapNode). length rs) (nodes_in-append told (End ∷ []) ∙ append-nil (nodes_in told)) in omega (arith, count, heard.line);
    reason = leads_still told head checker heard.reason;
  }

-- Items are told in their order: one head first, and few records.

abbrev heads_in : List PlanItem → ℕ
heads_in [] = 0
heads_in (Head s w c b n ∷ more) = heads_in more + 1
heads_in (Node r ∷ more) = heads_in more
heads_in (End ∷ more) = heads_in more

heads_in-append : (xs ys : List PlanItem) → heads_in (xs ++ ys) ≡ heads_in xs + heads_in ys
heads_in-append [] ys = omega arith
heads_in-append (Head s w c b n ∷ xs) ys = let more = heads_in-append xs ys in omega (arith, more)
heads_in-append (Node r ∷ xs) ys = heads_in-append xs ys
heads_in-append (End ∷ xs) ys = heads_in-append xs ys

heads_in-nodes : (rs : List GapNode) → heads_in (map (λ r. Node r) rs) ≡ 0
heads_in-nodes [] = refl
heads_in-nodes (r ∷ rs) = heads_in-nodes rs

one_head : (told more : List PlanItem) (u : PlanItem) (s : Standing) (w c n : ℕ) (b : Numbers) → heads_in more ≡ 0 → told ++ Head s w c b n ∷ [] ≡ u ∷ more → told ≡ []
one_head [] more u s w c n b none e = refl
one_head (t ∷ told) more u s w c n b none e =
    let rest : told ++ Head s w c b n ∷ [] ≡ more = cc in
    absurd (omega (arith, none, ap heads_in rest, heads_in-append told (Head s w c b n ∷ [])))

few_records : (family : Family) → most_records family ≤ MOST_GAP_NODES
few_records Plans = omega arith
few_records Gaps = omega arith

module _ (family : Family) (p : Problem) (text : List ℕ) (told : List PlanItem) where
  pub head_first : (s : Standing) (w c n : ℕ) (b : Numbers) → IsProblem p → Tells family p text (told ++ Head s w c b n ∷ []) → told ≡ []
  head_first s w c n b sound tells = elim (items_in_order family p text (told ++ Head s w c b n ∷ []) sound tells) [
    | inl none ↦ let rest : length (told ++ Head s w c b n ∷ []) ≡ 0 = ap (λ (xs : List PlanItem). length xs) none in absurd (omega (arith, rest, length-append told (Head s w c b n ∷ [])))
    | inr order ↦ elim order.order [
      | inl going ↦ one_head told _ _ s w c n b (heads_in-nodes order.records) going
      | inr (_, whole) ↦ one_head told _ _ s w c n b (let sum = heads_in-append (map (λ r. Node r) order.records) (End ∷ []) in omega (arith, sum, heads_in-nodes order.records)) whole
    ]
  ]

  pub few_nodes : IsProblem p → Tells family p text told → length (nodes_in told) ≤ MOST_GAP_NODES
  few_nodes sound tells = elim (items_in_order family p text told sound tells) [
    | inl none ↦ let count : length (nodes_in told) ≡ 0 = ap (λ (xs : List PlanItem). length (nodes_in xs)) none in omega (arith, count)
    | inr order ↦
        let few = few_records family in
        elim order.order [
          | inl going ↦ let count : length (nodes_in told) ≡ length order.records = ap (λ (xs : List PlanItem). length (nodes_in xs)) going ∙ ap (λ (rs : List GapNode). length rs) (nodes_in-nodes order.records) in omega (arith, count, few, order.few, order.within)
          | inr (_, whole) ↦ let count : length (nodes_in told) ≡ length order.records = ap (λ (xs : List PlanItem). length (nodes_in xs)) whole ∙ ap (λ (rs : List GapNode). length rs) (nodes_in-plan order.records) in omega (arith, count, few, order.few, order.within)
        ]
  ]

-- so the next item is one that may come
pub is_next : (family : Family) (p : Problem) (text : List ℕ) (told : List PlanItem) (item : PlanItem) → IsProblem p → Tells family p text (told ++ item ∷ []) → IsNextItem told item
is_next family p text told (Head s w c b n) sound tells = head_first family p text told s w c n b sound tells
is_next family p text told (Node r) sound tells = tt
is_next family p text told End sound tells = tt

-- The reason against a whole plan or gap plan.

pub plan_reason : (family : Family) (p : Problem) (plan : GapPlan) (told : List PlanItem) (head : AHead) (checker : Progress) → told ≡ items_of plan → HasHeard family p told head checker → (head ≡ head_of plan.standing plan.weight plan.ceiling plan.numbers) × (gap_reason_at_end checker head.ceiling ≡ reason_against family p plan)
plan_reason family p plan told head checker whole heard =
    let leads = subst (λ (items : List PlanItem). LeadsToReason family p items head checker) whole heard.reason in (
      leads.0,
      ap (λ (h : AHead). gap_reason_at_end checker h.ceiling) leads.0
          ∙ leads.1 []
          ∙ ap (λ (rs : List GapNode). reason_against family p (plan_with plan.standing plan.weight plan.ceiling plan.numbers rs)) (append-nil _ ∙ nodes_in-plan plan.nodes),
    )

-- What is kept.

records_kept-append : (keeps : Bool) (xs ys : List GapNode) → records_kept keeps (xs ++ ys) ≡ records_kept keeps xs ++ records_kept keeps ys
records_kept-append true xs ys = map-append shape_of xs ys
records_kept-append false xs ys = refl

-- one item more
pub kept_on : (keeps : Bool) (told : List PlanItem) (item : PlanItem) (old new : List TreeNode) → new ≡ old ++ records_kept keeps (nodes_in (item ∷ [])) → old ≡ records_kept keeps (nodes_in told) → new ≡ records_kept keeps (nodes_in (told ++ item ∷ []))
kept_on keeps told item old new adds kept =
    adds
    ∙ ap (λ (rs : List TreeNode). rs ++ records_kept keeps (nodes_in (item ∷ []))) kept
    ∙ sym (records_kept-append keeps (nodes_in told) (nodes_in (item ∷ [])))
    ∙ ap (records_kept keeps) (sym (nodes_in-append told (item ∷ [])))

-- an item that is no node
pub kept_still : (keeps : Bool) (records : List TreeNode) → records ≡ records ++ records_kept keeps []
kept_still true records = sym (append-nil records)
kept_still false records = sym (append-nil records)

-- and of the whole
abbrev plan_by : AHead → List TreeNode → Plan
plan_by head records = record { standing = head.standing; weight = head.weight; tree = records }

pub plan_kept : (keeps : Bool) (plan : GapPlan) (told : List PlanItem) (head : AHead) (records : List TreeNode) → told ≡ items_of plan → head ≡ head_of plan.standing plan.weight plan.ceiling plan.numbers → records ≡ records_kept keeps (nodes_in told) → plan_by head records ≡ kept_of keeps plan
plan_kept keeps plan told head records whole is kept =
    let all : records ≡ records_kept keeps plan.nodes = kept ∙ ap (λ (items : List PlanItem). records_kept keeps (nodes_in items)) whole ∙ ap (records_kept keeps) (nodes_in-plan plan.nodes) in
    ap (λ (h : AHead). plan_by h records) is ∙ ap (plan_by (head_of plan.standing plan.weight plan.ceiling plan.numbers)) all
