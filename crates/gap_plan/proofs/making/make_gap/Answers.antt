use Rattle.std.proofs.Common.{◌≤◌, ◌+◌, ◌*◌, List, length, sym, subst, IsPermutation}
use Rattle.bound_tree.specs.declared.gap.GapNode.{GapNode}
use Rattle.search_core.specs.Counts.{SameItems}
use Rattle.gap_plan.specs.Nodes.{closed_in, waiting_in}
use Rattle.gap_plan.proofs.Listed.{closed_is_same, waiting_is_same}
use Rattle.gap_plan.proofs.Numbered.{closed_stay, waiting_stay}
use Rattle.gap_plan.proofs.Made.{all_legal, accepted, few}
use Rattle.gap_plan.proofs.making.make_gap.Goals as goal

pub plan_of-requires-clause-legal : goal.plan_of-requires-clause-legal
plan_of-requires-clause-legal c =
    all_legal c.args.numbers c.args.sc.now c.args.best c.args.closed.items c.args.waiting.items c.in_ok-nodes.nodes.items c.recall_sound.ensures c.requires.even c.requires.good
    (rw (c.deref.ensures.value, c.deref-2.ensures.value) at c.in_ok-nodes.ensures.same) c.in_ok-nodes.ensures.sorted

pub returns-clause-accepted : goal.returns-clause-accepted
returns-clause-accepted c =
    accepted c.args.numbers c.args.sc.now c.args.best c.args.closed.items c.args.waiting.items c.in_ok-nodes.nodes.items c.recall_sound.ensures c.requires.even c.requires.good
    (rw (c.deref.ensures.value, c.deref-2.ensures.value) at c.in_ok-nodes.ensures.same) c.in_ok-nodes.ensures.sorted
    c.plan_of.result c.requires.exact c.plan_of.ensures.standing c.plan_of.ensures.weight c.plan_of.ensures.numbers c.plan_of.ensures.nodes c.plan_of.ensures.ceiling

pub returns-clause-closed : goal.returns-clause-closed
returns-clause-closed c =
    subst (λ (nodes : List GapNode). IsPermutation c.args.closed.items (closed_in nodes)) (sym c.plan_of.ensures.nodes)
    (subst (IsPermutation c.args.closed.items) (sym (closed_stay c.args.numbers c.args.sc.now c.in_ok-nodes.nodes.items))
    (closed_is_same c.args.closed.items c.args.waiting.items c.in_ok-nodes.nodes.items (rw (c.deref.ensures.value, c.deref-2.ensures.value) at c.in_ok-nodes.ensures.same)))

pub returns-clause-waiting : goal.returns-clause-waiting
returns-clause-waiting c =
    subst (λ (nodes : List GapNode). SameItems c.args.waiting.items (waiting_in nodes)) (sym c.plan_of.ensures.nodes)
    (subst (SameItems c.args.waiting.items) (sym (waiting_stay c.args.numbers c.args.sc.now c.in_ok-nodes.nodes.items))
    (waiting_is_same c.args.closed.items c.args.waiting.items c.in_ok-nodes.nodes.items (rw (c.deref.ensures.value, c.deref-2.ensures.value) at c.in_ok-nodes.ensures.same)))

pub returns-clause-few : goal.returns-clause-few
returns-clause-few c =
    subst (λ (nodes : List GapNode). length nodes ≤ 1 + 64 * length c.args.closed.items) (sym c.plan_of.ensures.nodes)
    (few c.args.numbers c.args.sc.now c.args.best c.args.closed.items c.args.waiting.items c.in_ok-nodes.nodes.items c.recall_sound.ensures c.requires.even c.requires.good
    (rw (c.deref.ensures.value, c.deref-2.ensures.value) at c.in_ok-nodes.ensures.same) c.in_ok-nodes.ensures.sorted)
