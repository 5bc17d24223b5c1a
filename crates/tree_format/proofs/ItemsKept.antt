-- What is kept of the items of a text is its plan.
use Rattle.std.proofs.Common.{◌≡◌, ℕ, ◌+◌, ◌≤◌, List, [], ◌∷◌, ◌++◌, map, length, take, drop, Result, Ok, Err, refl, sym, ap, subst, ◌∙◌, arith, append_assoc, append-nil}
use Rattle.std.proofs.Math.Seq.{take-add}
use Rattle.std.proofs.lemmas.List.{take-append-drop, take_all, take_rest}
use Rattle.search_model.specs.declared.standing.Standing.{Standing}
use Rattle.search_model.specs.Problem.{Problem}
use Rattle.bound_tree.specs.declared.gap.Numbers.{Numbers}
use Rattle.bound_tree.specs.declared.gap.GapNode.{GapNode}
use Rattle.bound_tree.specs.declared.gap.GapPlan.{GapPlan}
use Rattle.tree_format.specs.declared.collecting.Collected.{Collected}
use Rattle.tree_format.specs.declared.kind.PlanFault.{PlanFault}
use Rattle.tree_format.specs.declared.plan_line.Family.{Family}
use Rattle.tree_format.specs.declared.plan_line.Family.TheVariants.{Plans, Gaps}
use Rattle.tree_format.specs.declared.plan_item.PlanItem.{PlanItem}
use Rattle.tree_format.specs.declared.plan_item.PlanItem.TheVariants.{Node, End}
use Rattle.tree_format.specs.declared.plan_item.Step.{Step}
use Rattle.tree_format.specs.declared.plan_item.Step.TheVariants as step
use Rattle.tree_format.specs.declared.stop.PlanStop.{PlanStop}
use Rattle.tree_format.specs.declared.stop.PlanStop.TheVariants.{Fault, NoMemory}
use Rattle.tree_format.specs.Gives.{Gives, IfFault}
use Rattle.tree_format.specs.Reading.{blank_plan, text_at}
use Rattle.tree_format.specs.FeedSteps.{Stand}
use Rattle.tree_format.specs.Feeding.{items_of, HasRead, IfRead, IfMore, IfItem, IfFaulty, IsDecided, IsWhole}
use Rattle.tree_format.specs.Collecting.{with_item, with_items, Keeps, HasCollected}
use Rattle.tree_format.proofs.FedPieces.{rest_of}

-- an item more
item_more : (plan : GapPlan) (items : List PlanItem) (item : PlanItem) → with_items plan (items ++ item ∷ []) ≡ with_item (with_items plan items) item
item_more plan [] item = refl
item_more plan (first ∷ items) item = item_more (with_item plan first) items item

nodes_told : (s : Standing) (w c : ℕ) (n : Numbers) (old nodes : List GapNode) → with_items (record { standing = s; weight = w; ceiling = c; numbers = n; nodes = old }) (map (λ r. Node r) nodes ++ End ∷ []) ≡ record { standing = s; weight = w; ceiling = c; numbers = n; nodes = old ++ nodes }
nodes_told s w c n old [] = ap (λ (rs : List GapNode). record { standing = s; weight = w; ceiling = c; numbers = n; nodes = rs }) (sym (append-nil old))
nodes_told s w c n old (r ∷ nodes) =
    nodes_told s w c n (old ++ r ∷ []) nodes ∙ ap (λ (rs : List GapNode). record { standing = s; weight = w; ceiling = c; numbers = n; nodes = rs }) (append_assoc old (r ∷ []) nodes)

-- the items of a plan say that plan
plan_told : (plan : GapPlan) → with_items blank_plan (items_of plan) ≡ plan
plan_told plan = nodes_told plan.standing plan.weight plan.ceiling plan.numbers [] plan.nodes

-- What a feed did with first bytes of what is left of a text.
module _ (family : Family) (p : Problem) (before text : List ℕ) (used : ℕ) (old new : Stand) (kept : Collected) (brought : Step) (h : HasCollected family p before old kept) where
  -- neither an item nor a fault
  pub collected_more : brought ≡ step.More → IfMore brought (used ≡ length text) → IfRead p old (λ kind fed items. IfMore brought (HasRead kind p (fed ++ text) items new)) → HasCollected family p (before ++ take used text) new kept
  collected_more is all reads =
      let count : used ≡ length text = subst (λ (s : Step). IfMore s (used ≡ length text)) is all in
      let read : HasRead family p (before ++ text) h.items new = subst (λ (s : Step). IfMore s (HasRead family p (before ++ text) h.items new)) is (reads family before h.items h.read) in
      record {
        items = h.items;
        read = subst (λ (t : List ℕ). HasRead family p (before ++ t) h.items new) (sym (take_all used text (omega (arith, count)))) read;
        keeps = h.keeps;
      }

  -- an item
  pub collected_item : (item : PlanItem) (with : Collected) → brought ≡ step.Item item → ((plan : GapPlan) → Keeps family kept plan → Keeps family with (with_item plan item)) → IfRead p old (λ kind fed items. IfItem brought (λ told. HasRead kind p (fed ++ take used text) (items ++ told ∷ []) new)) → HasCollected family p (before ++ take used text) new with
  collected_item item with is keeps reads = record {
    items = h.items ++ item ∷ [];
    read = subst (λ (s : Step). IfItem s (λ told. HasRead family p (before ++ take used text) (h.items ++ told ∷ []) new)) is (reads family before h.items h.read);
    keeps = subst (Keeps family with) (sym (item_more blank_plan h.items item)) (keeps (with_items blank_plan h.items) h.keeps);
  }

  -- a fault, which is that of the text
  pub collected_fault : (fault : PlanFault) → brought ≡ step.Fault fault → IfRead p old (λ kind fed items. IfFaulty brought (λ f. IsDecided kind p (fed ++ take used text) f)) → text_at family p (before ++ text) ≡ Err fault
  collected_fault fault is decides =
      let decided : IsDecided family p (before ++ take used text) fault = subst (λ (s : Step). IfFaulty s (λ f. IsDecided family p (before ++ take used text) f)) is (decides family before h.items h.read) in
      let whole : (before ++ take used text) ++ drop used text ≡ before ++ text = append_assoc before (take used text) (drop used text) ∙ ap (λ (t : List ℕ). before ++ t) (take-append-drop used text) in
      sym (ap (text_at family p) whole) ∙ decided (drop used text)

-- What is left of a text behind its first bytes.

-- first bytes of it are bytes more
pub collected_on : (family : Family) (p : Problem) (text : List ℕ) (n m : ℕ) (feed : Stand) (kept : Collected) → HasCollected family p (take n text ++ take m (rest_of text n)) feed kept → HasCollected family p (take (n + m) text) feed kept
collected_on family p text n m feed kept h =
    subst (λ (t : List ℕ). HasCollected family p t feed kept) (ap (λ (left : List ℕ). take n text ++ take m left) (take_rest text n) ∙ sym (take-add n m text)) h

-- reading stopped at it
pub stop_collected : (family : Family) (p : Problem) (text : List ℕ) (n : ℕ) (feed : Stand) (kept : Collected) (stop : PlanStop) → HasCollected family p (take n text) feed kept →
    IfFault {A = ℕ} (Err stop) (λ fault. (before : List ℕ) → HasCollected family p before feed kept → text_at family p (before ++ rest_of text n) ≡ Err fault) → IfFault {A = Unit {0}} (Err stop) (λ fault. text_at family p text ≡ Err fault)
stop_collected family p text n feed kept (Fault fault) h faulty =
    let whole : take n text ++ rest_of text n ≡ text = ap (λ (left : List ℕ). take n text ++ left) (take_rest text n) ∙ take-append-drop n text in
    sym (ap (text_at family p) whole) ∙ faulty (take n text) h
stop_collected family p text n feed kept NoMemory h faulty = tt

-- Where none is left.

pub collected_all : (family : Family) (p : Problem) (text : List ℕ) (n : ℕ) (feed : Stand) (kept : Collected) → length text ≤ n → HasCollected family p (take n text) feed kept → HasCollected family p text feed kept
collected_all family p text n feed kept le h = subst (λ (t : List ℕ). HasCollected family p t feed kept) (take_all n text le) h

-- what is kept of a whole text is the plan that it spells
pub whole_collected : (family : Family) (p : Problem) (text : List ℕ) (feed : Stand) (kept : Collected) (h : HasCollected family p text feed kept) → IsWhole family p text h.items → Gives family (Ok kept) (text_at family p text)
whole_collected family p text feed kept h whole = (whole.plan, whole.spelled, subst (Keeps family kept) (ap (with_items blank_plan) whole.tell ∙ plan_told whole.plan) h.keeps)

-- From the first byte to the last.

-- before the first item nothing is kept
pub first_collected : (family : Family) (p : Problem) (feed : Stand) (kept : Collected) → HasRead family p [] [] feed → Keeps Plans kept blank_plan → Keeps Gaps kept blank_plan → HasCollected family p [] feed kept
first_collected Plans p feed kept read plan gap = record { items = []; read = read; keeps = plan }
first_collected Gaps p feed kept read plan gap = record { items = []; read = read; keeps = gap }

-- where reading stopped, that is told
pub stop_told : (family : Family) (stop : PlanStop) (read : Result GapPlan PlanFault) → IfFault {A = Unit {0}} (Err stop) (λ fault. read ≡ Err fault) → Gives family (Err stop) read
stop_told family (Fault fault) read h = h
stop_told family NoMemory read h = tt
