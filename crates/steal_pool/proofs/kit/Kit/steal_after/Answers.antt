use Rattle.std.proofs.Common.{◌<◌, ◌+◌, map, ap, ◌∷◌, ◌++◌, length, refl, arith, length-append}
use Rattle.std.proofs.lemmas.List.{length-map}
use Rattle.crossbeam_deque.specs.Handles.{view, stealer_deque, worker_deque, worker_view}
use Rattle.steal_pool.proofs.KitSteps.{stole_at, robs_after}
use Rattle.steal_pool.proofs.kit.Kit.steal_after.Goals as goal

pub returns : goal.returns
returns g c =
    let before = c.self.inside.before.items in
    let after = c.self.inside.after.items in
    let robbed = c.rob_at-theft.new.victims.items in
    let xs = map (λ v. view v.pass) before in
    let ys = map (λ v. view v.pass) after in
    let n = length before in
    let many = length-map before (λ v. view v.pass) in
    rw (← c.self.view_is)
    (let here : n + 1 + c.args.at < length (map (λ v. stealer_deque v.thief) before ++ worker_deque c.self.inside.own ∷ map (λ v. stealer_deque v.thief) after) = rw (← c.self.view_is) at c.requires in
    stole_at _ _ (n + 1 + c.args.at) c.rob_at-theft.result
    (omega (arith, here, many, length-append xs (worker_view c.self.inside.own ∷ ys), length-append (map (λ v. stealer_deque v.thief) before) (worker_deque c.self.inside.own ∷ map (λ v. stealer_deque v.thief) after), length-map after (λ v. view v.pass), length-map before (λ v. stealer_deque v.thief), length-map after (λ v. stealer_deque v.thief)))
    (ap (λ l. map (λ v. stealer_deque v.thief) before ++ worker_deque c.self.inside.own ∷ l) c.rob_at-theft.ensures.same)
    refl
    c.misses_after-self-inside.ensures
    (robs_after c.rob_at-theft.result xs ys (map (λ v. view v.pass) robbed) (worker_view c.self.inside.own) n c.args.at many c.rob_at-theft.ensures.took))
