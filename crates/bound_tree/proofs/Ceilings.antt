-- What the ceiling of a gap plan says.
use Rattle.std.proofs.Common.{◌≡◌, ℕ, ◌+◌, ◌*◌, ◌<◌, ◌≤◌, ◌==◌, inl, inr, ap, List, [], ◌∷◌, map, length, sym, refl, ◌∙◌, subst, arith, Contains, All, false, ◌↔◌}
use Rattle.std.proofs.lemmas.Bool.{cond_both, true≢false}
use Rattle.std.proofs.lemmas.List.Elements.{All-nil, All-cons, All-head, All-tail, All-append, All-weaker, All-map, All-contains, All-contains_itself}
use Rattle.search_model.specs.declared.standing.Standing.{Standing}
use Rattle.search_model.specs.Problem.{Problem, IsProblem}
use Rattle.search_model.specs.Legal.{IsLegal, IsPath}
use Rattle.search_model.specs.Tracks.{value_of, whole_weight}
use Rattle.search_model.specs.Bounds.{greatest}
use Rattle.search_model.specs.Order.{better, standing_of, IsBest}
use Rattle.search_model.proofs.Best.{one_best}
use Rattle.search_model.proofs.BoundSizes.{mean_size}
use Rattle.search_model.proofs.Greatest.{greatest_above, greatest_below, greatest-one}
use Rattle.search_model.proofs.Orders.{not_better_parts, better_one_way, same_or_differ}
use Rattle.list_laws.proofs.Members.{Contains-nil, Contains-head, Contains-tail, Contains-map, Contains-flat_map}
use Rattle.bound_tree.specs.declared.node.TreeNode.{TreeNode}
use Rattle.bound_tree.specs.declared.gap.Numbers.{Numbers}
use Rattle.bound_tree.specs.declared.gap.Numbers.TheVariants.{Means, Edges}
use Rattle.bound_tree.specs.declared.gap.GapKind.{GapKind}
use Rattle.bound_tree.specs.declared.gap.GapKind.TheVariants.{Closed, Waiting}
use Rattle.bound_tree.specs.declared.gap.GapNode.{GapNode}
use Rattle.bound_tree.specs.declared.gap.GapPlan.{GapPlan}
use Rattle.bound_tree.specs.Accepts.{IsGoodKind, IsGood}
use Rattle.bound_tree.specs.Gaps.{shape_of_kind, shape_of, open_bound, ceiling_of, IsGoodOpenKind, IsGoodOpen, open_number, open_numbers, closed_node, GapAccepts, gap_of}
use Rattle.bound_tree.specs.GapLaws.{CeilingIsAbove, CeilingSize, EdgeCeilingSize, GapOfNoneWaiting, NoneWaitingIsBest, PlanIsGapPlan, MetCeilingIsBest}
use Rattle.bound_tree.proofs.Leaves.{shorter, Says, best_ends}
use Rattle.bound_tree.proofs.Placing.{eaten_is_placed_and_good, placed_are_legal}

-- the bound of a shorter prefix is at most the whole weight, once for each period and once more
open_bound_size : (numbers : Numbers) (p : Problem) (q : List ℕ) → IsProblem p → length q < p.horizon → open_bound numbers p q ≤ (p.horizon + 1) * whole_weight p
open_bound_size Means p q sound short = mean_size p q sound short
open_bound_size Edges p q sound short = omega arith

-- so is the ceiling of a legal prefix
prefix_ceiling_size : (numbers : Numbers) (p : Problem) (q : List ℕ) → IsProblem p → length q ≤ p.horizon → ceiling_of numbers p q ≤ (p.horizon + 1) * whole_weight p
prefix_ceiling_size numbers p q sound short =
    cond_both (length q == p.horizon) (value_of p q) (open_bound numbers p q) (λ c. c ≤ (p.horizon + 1) * whole_weight p)
    (λ _. omega arith)
    (λ other. open_bound_size numbers p q sound (shorter (length q) p.horizon short other))

-- with edge bounds it is at most the whole weight
edge_ceiling_size : (p : Problem) (q : List ℕ) → ceiling_of Edges p q ≤ whole_weight p
edge_ceiling_size p q =
    cond_both (length q == p.horizon) (value_of p q) (open_bound Edges p q) (λ c. c ≤ whole_weight p)
    (λ _. omega arith)
    (λ _. omega arith)

-- what holds of the number of each waiting node holds of all their numbers
All-open : (P : ℕ → Type 0) (nodes : List GapNode) → All (λ node. All P (open_number node.kind)) nodes → All P (open_numbers nodes)
All-open P [] each = All-nil P
All-open P (node ∷ nodes) each =
    All-append P (open_number node.kind) (open_numbers nodes) (All-head (λ node. All P (open_number node.kind)) node nodes each) (All-open P nodes (All-tail (λ node. All P (open_number node.kind)) node nodes each))

-- the number of a waiting node is one of the numbers of all of them
open_listed : (nodes : List GapNode) (node : GapNode) (n : ℕ) → Contains nodes node → Contains (open_number node.kind) n → Contains (open_numbers nodes) n
open_listed nodes node n has is = Contains-flat_map (λ node. open_number node.kind) nodes node n has is

-- no path finds more than the best
best_most : (p : Problem) (x y : List ℕ) → IsBest p x → IsPath p y → value_of p y ≤ value_of p x
best_most p x y best path =
    elim (same_or_differ y x) [
      | inl same ↦ omega (arith, ap (value_of p) same)
      | inr differ ↦ (not_better_parts (standing_of p y) (standing_of p x) (better_one_way (standing_of p x) (standing_of p y) (best.better y path differ))).0
    ]

-- what the leaf says at which the best path ends: that finds at most a ceiling, if the value and the leaf's number aren't above it
said_within : (numbers : Numbers) (p : Problem) (sound : IsProblem p) (s : Standing) (x : List ℕ) (best : IsBest p x) (ceiling : ℕ) (kind : GapKind) → Says numbers p sound s x best kind → s.value ≤ ceiling →
    ((n : ℕ) → Contains (open_number kind) n → n ≤ ceiling) → value_of p x ≤ ceiling
said_within numbers p sound s x best ceiling (Closed kind) says most low = omega (arith, (not_better_parts (standing_of p x) s says).0, most)
said_within numbers p sound s x best ceiling (Waiting n) says most low = omega (arith, says, low n (Contains-head n []))

pub ceiling_is_above : CeilingIsAbove
ceiling_is_above p plan y sound a path =
    let s = plan.standing in
    let numbers : List ℕ = open_numbers plan.nodes in
    let (x, best, _) = one_best p sound in
    let (node, has, says) = best_ends plan.numbers p sound s x best plan.nodes a.placed a.good in
    let above : (n : ℕ) → Contains (s.value ∷ numbers) n → n ≤ plan.ceiling = λ n is. omega (arith, a.ceiling, greatest_above (s.value ∷ numbers) n is) in
    let within = said_within plan.numbers p sound s x best plan.ceiling node.kind says (above s.value (Contains-head s.value numbers))
    (λ n is. above n (Contains-tail s.value n numbers (open_listed plan.nodes node n has is))) in
    omega (arith, best_most p x y best path, within)

-- the number of a good waiting node is as small as the ceiling of its prefix
number_size : (numbers : Numbers) (p : Problem) (s : Standing) (most : ℕ) (q : List ℕ) (kind : GapKind) → ceiling_of numbers p q ≤ most → IsGoodOpenKind numbers p s q kind →
    All (λ n. n ≤ most) (open_number kind)
number_size numbers p s most q (Closed kind) small good = All-nil (λ n. n ≤ most)
number_size numbers p s most q (Waiting n) small good = All-cons (λ n. n ≤ most) n [] (omega (arith, good, small)) (All-nil (λ n. n ≤ most))

-- where the ceilings of the nodes' prefixes are at most that, and so is the whole weight, the ceiling of an accepted gap plan is
ceiling_below : (p : Problem) (plan : GapPlan) (most : ℕ) → GapAccepts p plan → whole_weight p ≤ most →
    ((node : GapNode) → Contains plan.nodes node → ceiling_of plan.numbers p node.prefix ≤ most) → plan.ceiling ≤ most
ceiling_below p plan most a enough small =
    let s = plan.standing in
    let nodes = plan.nodes in
    let each = All-weaker (Contains nodes) (λ node. All (λ n. n ≤ most) (open_number node.kind))
    (λ node has. number_size plan.numbers p s most node.prefix node.kind (small node has) (All-contains (IsGoodOpen plan.numbers p s) nodes node a.good has))
    nodes (All-contains_itself nodes) in
    let value : s.value ≤ most = omega (arith, a.value, enough) in
    omega (arith, a.ceiling, greatest_below most (s.value ∷ open_numbers nodes) (All-cons (λ n. n ≤ most) s.value (open_numbers nodes) value (All-open (λ n. n ≤ most) nodes each)))

pub ceiling_size : CeilingSize
ceiling_size p plan sound a =
    let s = plan.standing in
    let nodes = plan.nodes in
    let empty : IsLegal p [] = record { follows = tt; short = omega arith } in
    let legal = placed_are_legal p (map shape_of nodes) ([] ∷ []) (All-cons (IsLegal p) [] [] empty (All-nil (IsLegal p))) a.placed in
    let below = ceiling_below p plan ((p.horizon + 1) * whole_weight p) a (omega arith)
    (λ node has.
    let at = All-contains (λ r. IsLegal p r.prefix) (map shape_of nodes) (shape_of node) legal (Contains-map shape_of nodes node has) in
    prefix_ceiling_size plan.numbers p node.prefix sound at.short) in
    let above = greatest_above (s.value ∷ open_numbers nodes) s.value (Contains-head s.value (open_numbers nodes)) in
    (omega (arith, a.ceiling, above), below)

pub edge_ceiling_size_holds : EdgeCeilingSize
edge_ceiling_size_holds p plan edges a =
    ceiling_below p plan (whole_weight p) a (omega arith)
    (λ node has. subst (λ (numbers : Numbers). ceiling_of numbers p node.prefix ≤ whole_weight p) (sym edges) (edge_ceiling_size p node.prefix))

-- a kind without a number is that of a closed node
no_number : (kind : GapKind) → ((n : ℕ) → Contains (open_number kind) n → ⊥) → open_number kind ≡ []
no_number (Closed kind) none = refl
no_number (Waiting n) none = absurd (none n (Contains-head n []))

module _ (numbers : Numbers) (p : Problem) (s : Standing) where
  -- a node that doesn't wait is good exactly where its record is
  closed_good : (q : List ℕ) (kind : GapKind) → open_number kind ≡ [] → IsGoodOpenKind numbers p s q kind ↔ IsGoodKind p s q (shape_of_kind kind)
  closed_good q (Closed kind) none = (λ good. good, λ good. good)
  closed_good q (Waiting n) none = absurd (omega (arith, ap length none))

  all_closed_good : (nodes : List GapNode) → open_numbers nodes ≡ [] → All (IsGoodOpen numbers p s) nodes ↔ All (IsGood p s) (map shape_of nodes)
  all_closed_good nodes none =
      let closed : (node : GapNode) → Contains nodes node → open_number node.kind ≡ [] =
      λ node has. no_number node.kind (λ n is. Contains-nil n (subst (λ ns. Contains ns n) none (open_listed nodes node n has is))) in (
        λ good.
            All-map (IsGood p s) shape_of nodes
            (All-weaker (Contains nodes) (λ node. IsGood p s (shape_of node))
            (λ node has. (closed_good node.prefix node.kind (closed node has)).0 (All-contains (IsGoodOpen numbers p s) nodes node good has))
            nodes (All-contains_itself nodes)),
        λ good.
            All-weaker (Contains nodes) (IsGoodOpen numbers p s)
            (λ node has. (closed_good node.prefix node.kind (closed node has)).1 (All-contains (IsGood p s) (map shape_of nodes) (shape_of node) good (Contains-map shape_of nodes node has)))
            nodes (All-contains_itself nodes),
      )

pub gap_of_none_waiting : GapOfNoneWaiting
gap_of_none_waiting p plan none =
    let s = plan.standing in
    let records = map shape_of plan.nodes in
    let alone : greatest (s.value ∷ open_numbers plan.nodes) ≡ s.value = ap (λ ns. greatest (s.value ∷ ns)) none ∙ greatest-one s.value in
    let eaten = eaten_is_placed_and_good p s ([] ∷ []) records in
    let goods = all_closed_good plan.numbers p s plan.nodes none in (
      λ a. (record { path = a.path; value = a.value; weight = a.weight; tree = eaten.1 (a.placed, goods.0 a.good) }, a.ceiling ∙ alone),
      λ both.
          let (a, met) = both in
          record { path = a.path; value = a.value; weight = a.weight; placed = (eaten.0 a.tree).0; good = goods.1 (eaten.0 a.tree).1; ceiling = met ∙ sym alone },
    )

-- a leaf among nodes of which none waits says of the best path that it isn't better
said_closed : (numbers : Numbers) (p : Problem) (sound : IsProblem p) (s : Standing) (x : List ℕ) (best : IsBest p x) (kind : GapKind) → Says numbers p sound s x best kind → open_number kind ≡ [] → better (standing_of p x) s ≡ false
said_closed numbers p sound s x best (Closed kind) says none = says
said_closed numbers p sound s x best (Waiting n) says none = absurd (omega (arith, ap length none))

pub none_waiting_is_best : NoneWaitingIsBest
none_waiting_is_best p plan sound none a =
    let s = plan.standing in
    let (x, best, _) = one_best p sound in
    let (node, has, says) = best_ends plan.numbers p sound s x best plan.nodes a.placed a.good in
    let closed = no_number node.kind (λ n is. Contains-nil n (subst (λ ns. Contains ns n) none (open_listed plan.nodes node n has is))) in
    let worse : better (standing_of p x) (standing_of p s.path) ≡ false = rw (← a.value) (said_closed plan.numbers p sound s x best node.kind says closed) in
    elim (same_or_differ s.path x) [
      | inl same ↦ subst (IsBest p) (sym same) best
      | inr differ ↦ absurd (true≢false (sym (best.better s.path a.path differ) ∙ worse))
    ]

-- no closed node waits
pub none_of_closed : (rs : List TreeNode) → open_numbers (map closed_node rs) ≡ []
none_of_closed [] = refl
none_of_closed (r ∷ rs) = none_of_closed rs

-- a record is the record of its closed node
pub shapes_of_closed : (rs : List TreeNode) → map shape_of (map closed_node rs) ≡ rs
shapes_of_closed [] = refl
shapes_of_closed (r ∷ rs) = ap (λ (xs : List TreeNode). r ∷ xs) (shapes_of_closed rs)

pub plan_is_gap_plan : PlanIsGapPlan
plan_is_gap_plan numbers p plan =
    let both = gap_of_none_waiting p (gap_of numbers plan) (none_of_closed plan.tree) in
    let same = shapes_of_closed plan.tree in (
      λ a. both.1 (record { path = a.path; value = a.value; weight = a.weight; tree = rw same a.tree }, refl),
      λ g. let a = (both.0 g).0 in record { path = a.path; value = a.value; weight = a.weight; tree = rw (← same) a.tree },
    )

pub met_ceiling_is_best : MetCeilingIsBest
met_ceiling_is_best p plan y sound a met path = omega (arith, ceiling_is_above p plan y sound a path, met, a.value)
