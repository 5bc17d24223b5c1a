use Rattle.std.proofs.Common.{map, ap, sym, ◌∙◌, ◌∷◌, ◌++◌, [], length, refl, arith, length-append, subst}
use Rattle.std.proofs.lemmas.List.{length-map, get_or_at, set_at}
use Rattle.crossbeam_deque.specs.Handles.{view, stealer_deque, worker_deque, worker_view}
use Rattle.steal_pool.specs.Rule.{hand, with_task, FirstAtOneMoment}
use Rattle.steal_pool.proofs.Left.{left_none, left_first}
use Rattle.steal_pool.proofs.KitSteps.{took_at, alone_left, some_left}
use Rattle.steal_pool.proofs.kit.Kit.own.Goals as goal

pub returns-clause-took : goal.returns-clause-took
returns-clause-took g c =
    let before = c.self.inside.before.items in
    let after = c.self.inside.after.items in
    let xs = map (λ v. view v.pass) before in
    let ys = map (λ v. view v.pass) after in
    let v = worker_view c.self.inside.own in
    let n = length before in
    let many = length-map before (λ v. view v.pass) in
    let at = get_or_at xs v ys (hand 0 [] []) n many in
    rw (← c.self.view_is)
    (took_at _ _ n c.in-Some.task (omega (arith, many, length-append xs (v ∷ ys)))
    (ap (λ d. map (λ v. stealer_deque v.thief) before ++ d ∷ map (λ v. stealer_deque v.thief) after) c.take_task.ensures.same.0.0)
    refl
    (ap (λ w. xs ++ w ∷ ys) (c.in-Some.ensures.rule.0 ∙ ap (λ u. with_task u c.in-Some.task) (sym at)) ∙ sym (set_at xs v ys _ n many)))

pub returns-clause-first : goal.returns-clause-first
returns-clause-first g c =
    let xs = map (λ v. view v.pass) c.self.inside.before.items in
    let ys = map (λ v. view v.pass) c.self.inside.after.items in
    let at = get_or_at xs (worker_view c.self.inside.own) ys (hand 0 [] []) (length c.self.inside.before.items) (length-map c.self.inside.before.items (λ v. view v.pass)) in
    rw (← c.self.view_is) (subst (λ u. FirstAtOneMoment u (c.in-Some.task ∷ [])) (sym at) c.in-Some.ensures.rule.1)

pub returns-in_default-clause-alone : goal.returns-in_default-clause-alone
returns-in_default-clause-alone g c = rw (← c.self.view_is) (λ one.
    let left = alone_left (λ v. stealer_deque v.thief) (λ v. view v.pass) c.self.inside.before.items c.self.inside.after.items (worker_deque c.self.inside.own) (worker_view c.self.inside.own) [] one c.self.invariant.passes c.in_default.ensures.rule.1 in
    ((λ _. left_none _ _ left), λ _. refl))

pub returns-clause-alone : goal.returns-clause-alone
returns-clause-alone g c = rw (← c.self.view_is) (λ one.
    let took = c.in-Some.ensures.rule.1 in
    let left = alone_left (λ v. stealer_deque v.thief) (λ v. view v.pass) c.self.inside.before.items c.self.inside.after.items (worker_deque c.self.inside.own) (worker_view c.self.inside.own) (c.in-Some.task ∷ took.0) one c.self.invariant.passes took.1 in
    ((λ never. absurd (cc)), λ same. absurd (some_left _ _ took.0 c.in-Some.task left same)))

pub returns-clause-alone_first : goal.returns-clause-alone_first
returns-clause-alone_first g c = rw (← c.self.view_is) (λ one.
    let took = c.in-Some.ensures.rule.1 in
    let left = alone_left (λ v. stealer_deque v.thief) (λ v. view v.pass) c.self.inside.before.items c.self.inside.after.items (worker_deque c.self.inside.own) (worker_view c.self.inside.own) (c.in-Some.task ∷ took.0) one c.self.invariant.passes took.1 in
    left_first _ _ took.0 c.in-Some.task left)
