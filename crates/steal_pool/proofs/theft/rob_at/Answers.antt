use Rattle.std.proofs.Common.{map, ap, sym, ◌∙◌, [], set}
use Rattle.std.proofs.lemmas.List.{map-set, set-get_or, get_or-map}
use Rattle.crossbeam_deque.specs.Handles.{view, stealer_deque}
use Rattle.steal_pool.specs.Rule.{hand}
use Rattle.steal_pool.proofs.KitSteps.{robs_at}
use Rattle.steal_pool.proofs.theft.rob_at.Goals as goal

pub returns-clause-same : goal.returns-clause-same
returns-clause-same g c =
    let vs = c.args.victims.now.items in
    let there = get_or-map (λ v. stealer_deque v.thief) vs c.args.at c.index_mut-victim.result.now (stealer_deque c.index_mut-victim.result.now.thief) c.requires ∙ ap (λ v. stealer_deque v.thief) (sym c.index_mut-victim.ensures.value) in
    map-set (λ v. stealer_deque v.thief) vs c.args.at c.rob.new.victim
    ∙ ap (set (map (λ v. stealer_deque v.thief) vs) c.args.at) (c.rob.ensures.same ∙ sym there)
    ∙ set-get_or (map (λ v. stealer_deque v.thief) vs) c.args.at (stealer_deque c.index_mut-victim.result.now.thief)

pub returns-clause-took : goal.returns-clause-took
returns-clause-took g c =
    let vs = c.args.victims.now.items in
    let there = get_or-map (λ v. view v.pass) vs c.args.at c.index_mut-victim.result.now (hand 0 [] []) c.requires ∙ ap (λ v. view v.pass) (sym c.index_mut-victim.ensures.value) in
    rw map-set (robs_at c.rob.result (map (λ v. view v.pass) vs) c.args.at _ _ there c.rob.ensures.took)
