use Rattle.std.proofs.Common.{◌<◌, [], ◌∷◌, ◌++◌, length, map, ap, sym, ◌∙◌, arith, append_assoc, length-append}
use Rattle.std.proofs.lemmas.List.{map_push, get_or_at, map-append, length-map}
use Rattle.crossbeam_deque.specs.Handles.{worker_view}
use Rattle.steal_pool.specs.Rule.{hand}
use Rattle.steal_pool.specs.Pools.{IsOwner, passes_at}
use Rattle.steal_pool.proofs.Places.{All-middle}
use Rattle.steal_pool.proofs.Settled.{drained_more}
use Rattle.steal_pool.proofs.settling.drain_all.Goals as goal

pub drain-requires-clause-fifo : goal.drain-requires-clause-fifo
drain-requires-clause-fifo g c =
    let split = c.loop-own.invariant.split ∙ ap (λ l. c.loop-own.yielded ++ l) c.in-Some.ensures.steps.0 in
    (All-middle IsOwner c.args.owns.items c.loop-own.yielded c.next.new.self.rest.items c.in-Some.own split c.requires.owner).fifo

pub drain-requires-clause-passes : goal.drain-requires-clause-passes
drain-requires-clause-passes g c =
    let done = c.loop-own.yielded in
    let left = c.next.new.self.rest.items in
    let split = c.loop-own.invariant.split ∙ ap (λ l. done ++ l) c.in-Some.ensures.steps.0 in
    let long : length done < length c.args.owns.items = omega (arith, ap length split, length-append done (c.in-Some.own ∷ left)) in
    let hands = ap (λ l. map (λ w. worker_view w) l) split ∙ map-append (λ w. worker_view w) done (c.in-Some.own ∷ left) in
    let at = get_or_at (map (λ w. worker_view w) done) (worker_view c.in-Some.own) (map (λ w. worker_view w) left) (hand 0 [] []) (length done) (length-map done (λ w. worker_view w)) in
    ap (λ h. h.passes) (sym at) ∙ ap (λ l. passes_at l (length done)) (sym hands) ∙ c.requires.passes (length done) long

pub loop-own-preserved : goal.loop-own-preserved
loop-own-preserved g c =
    let done = c.loop-own.yielded in
    let split = c.loop-own.invariant.split ∙ ap (λ l. done ++ l) c.in-Some.ensures.steps.0 in
    record {
      split = split ∙ sym (append_assoc done (c.in-Some.own ∷ []) c.next.new.self.rest.items);
      drained = simp map_push (drained_more (map (λ w. worker_view w) done) (worker_view c.in-Some.own) c.loop-own.out.items c.drain.new.out.items c.loop-own.invariant.drained c.in_ok-drain.ensures);
    }
