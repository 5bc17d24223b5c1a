use Rattle.std.proofs.Common.{◌≡◌, ◌<◌, map, ap, sym, ◌∙◌, ◌∷◌, ◌++◌, length, arith, length-append}
use Rattle.std.proofs.lemmas.List.{length-map}
use Rattle.crossbeam_deque.specs.Handles.{view, stealer_deque, worker_deque, worker_view}
use Rattle.steal_pool.proofs.KitSteps.{stole_at, robs_before}
use Rattle.steal_pool.proofs.kit.Kit.steal_before.Goals as goal

pub returns : goal.returns
returns g c =
    let before = c.self.inside.before.items in
    let after = c.self.inside.after.items in
    let robbed = c.rob_at-theft.new.victims.items in
    let xs = map (λ v. view v.pass) before in
    let ys = map (λ v. view v.pass) after in
    let many = length-map before (λ v. view v.pass) in
    let as_many : length robbed ≡ length before = sym (length-map robbed (λ v. stealer_deque v.thief)) ∙ ap length c.rob_at-theft.ensures.same ∙ length-map before (λ v. stealer_deque v.thief) in
    rw (← c.self.view_is)
    (let here : c.args.at < length before = rw (← c.self.view_is) at c.requires in
    stole_at _ _ c.args.at c.rob_at-theft.result (omega (arith, length-append xs (worker_view c.self.inside.own ∷ ys), many))
    (ap (λ l. l ++ worker_deque c.self.inside.own ∷ map (λ v. stealer_deque v.thief) after) c.rob_at-theft.ensures.same)
    as_many
    c.misses_after-self-inside.ensures
    (robs_before c.rob_at-theft.result xs (map (λ v. view v.pass) robbed) ys (worker_view c.self.inside.own) c.args.at (omega (arith, many)) c.rob_at-theft.ensures.took))
