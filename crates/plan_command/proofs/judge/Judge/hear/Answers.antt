use Rattle.std.proofs.Common.{◌≡◌, List, [], ◌∷◌, ◌++◌, sym, ap, subst}
use Rattle.tree_format.specs.declared.plan_item.PlanItem.{PlanItem}
use Rattle.plan_command.specs.declared.hearing.Head.{Head}
use Rattle.plan_command.specs.Intakes.{IsNextItem, HasHeard, nodes_in, records_kept}
use Rattle.plan_command.proofs.Heard.{end_heard, kept_still}
use Rattle.plan_command.proofs.judge.Judge.hear.Goals as goal

pub returns-in-Head-clause-heard : goal.returns-in-Head-clause-heard
returns-in-Head-clause-heard c = λ told next heard.
    let self = c.args.self.now in
    let head : Head = record { standing = c.in-Head.standing; weight = c.in-Head.weight; ceiling = c.in-Head.ceiling; numbers = c.in-Head.numbers } in
    let first : told ≡ [] = subst (λ (item : PlanItem). IsNextItem told item) c.in-Head.is next in
    subst (λ (items : List PlanItem). HasHeard self.task.family self.sc items head c.hear_head.new.checker)
    (ap (λ (items : List PlanItem). items ++ c.args.item ∷ []) (sym first))
    (subst (λ (item : PlanItem). HasHeard self.task.family self.sc (item ∷ []) head c.hear_head.new.checker) (sym c.in-Head.is)
    (c.hear_head.ensures _))

pub returns-in-Head-clause-kept : goal.returns-in-Head-clause-kept
returns-in-Head-clause-kept c =
    let self = c.args.self.now in
    subst (λ (item : PlanItem). self.records.items ≡ self.records.items ++ records_kept self.task.keeps (nodes_in (item ∷ []))) (sym c.in-Head.is) (kept_still self.task.keeps self.records.items)

pub returns-in_ok-keep-in-Node-clause-heard : goal.returns-in_ok-keep-in-Node-clause-heard
returns-in_ok-keep-in-Node-clause-heard c = λ told next heard.
    let self = c.args.self.now in
    subst (λ (item : PlanItem). HasHeard self.task.family self.sc (told ++ item ∷ []) self.head c.hear_node.new.checker) (sym c.in-Node.is)
    (c.hear_node.ensures self.task.family told self.head heard)

pub returns-in_ok-keep-in-Node-clause-kept : goal.returns-in_ok-keep-in-Node-clause-kept
returns-in_ok-keep-in-Node-clause-kept c =
    let self = c.args.self.now in
    subst (λ (item : PlanItem). c.keep.new.records.items ≡ self.records.items ++ records_kept self.task.keeps (nodes_in (item ∷ []))) (sym c.in-Node.is) c.in_ok-keep-in-Node.ensures.kept

pub returns-in-End-clause-heard : goal.returns-in-End-clause-heard
returns-in-End-clause-heard c = λ told next heard.
    let self = c.args.self.now in
    subst (λ (item : PlanItem). HasHeard self.task.family self.sc (told ++ item ∷ []) self.head self.checker) (sym c.in-End.is)
    (end_heard self.task.family self.sc told self.head self.checker heard)

pub returns-in-End-clause-kept : goal.returns-in-End-clause-kept
returns-in-End-clause-kept c =
    let self = c.args.self.now in
    subst (λ (item : PlanItem). self.records.items ≡ self.records.items ++ records_kept self.task.keeps (nodes_in (item ∷ []))) (sym c.in-End.is) (kept_still self.task.keeps self.records.items)
