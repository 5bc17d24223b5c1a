use Rattle.std.proofs.Common.{◌≡◌, [], ◌∷◌, ◌++◌, length, slice_get, Some, ap, sym, ◌∙◌, append_assoc}
use Rattle.steal_pool.proofs.Places.{slice_get_at}
use Rattle.steal_pool.proofs.Settled.{apart_more}
use Rattle.steal_pool.proofs.settling.take_apart.Goals as goal

pub loop-kit-preserved : goal.loop-kit-preserved
loop-kit-preserved g c =
    let done = c.loop-kit.yielded in
    let split = c.loop-kit.invariant.split ∙ ap (λ l. done ++ l) c.in-Some.ensures.steps.0 in
    let next : slice_get c.args.kits.items (length done) ≡ Some c.in-Some.kit = ap (λ l. slice_get l (length done)) split ∙ slice_get_at done c.next.new.self.rest.items c.in-Some.kit in
    let p = c.part-own.ensures in
    record {
      split = split ∙ sym (append_assoc done (c.in-Some.kit ∷ []) c.next.new.self.rest.items);
      apart = rw (c.in_ok-push.ensures.items, c.in_ok-push-2.ensures.items)
          (apart_more _ _ _ _ _ _ _ c.requires next (record { pool = p.pool; place = p.place; hands = p.hands; owner = p.owner; passes = p.passes; few = p.few }) c.loop-kit.invariant.apart);
    }
