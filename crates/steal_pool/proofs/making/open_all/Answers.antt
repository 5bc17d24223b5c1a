use Rattle.std.proofs.Common.{[], ◌∷◌, length, map, inl, inr, arith, ap, ◌∙◌, length-append}
use Rattle.std.proofs.lemmas.Bool.{cases_lt}
use Rattle.std.proofs.lemmas.List.{length-map, map_push}
use Rattle.std.proofs.lemmas.List.Elements.{All-push}
use Rattle.crossbeam_deque.specs.Handles.{worker_view}
use Rattle.steal_pool.specs.News.{IsNewOwn}
use Rattle.steal_pool.specs.Pools.{passes_at}
use Rattle.steal_pool.proofs.Passes.{passes_at-last, passes_at-front}
use Rattle.steal_pool.proofs.making.open_all.Goals as goal

pub loop-made-preserved : goal.loop-made-preserved
loop-made-preserved g c =
    let owns = c.loop-made.owns.items in
    let own = c.in_ok-open_deque.field-0 in
    let e = c.in_ok-open_deque.ensures in
    let hands = map (λ w. worker_view w) owns in
    let wide = length-map owns (λ w. worker_view w) in
    let fresh : IsNewOwn own = record { fifo = e.fifo; port = e.port; room = e.room.0; index = e.room.1; put = ap (λ h. h.put) e.hand; taken = ap (λ h. h.taken) e.hand } in
    rw c.in_ok-push.ensures.items (record {
      many = omega (arith, c.loop-made.invariant.many, length-append owns (own ∷ []));
      new = All-push IsNewOwn owns own c.loop-made.invariant.new fresh;
      passes = λ i within. ap (λ l. passes_at l i) (map_push (λ w. worker_view w) owns own) ∙ (elim (cases_lt i (length owns)) [
        | inl earlier ↦ passes_at-front hands (worker_view own) i (omega (arith, wide)) ∙ c.loop-made.invariant.passes i earlier
        | inr last ↦ passes_at-last hands (worker_view own) i (omega (arith, wide, last, within, length-append owns (own ∷ []))) ∙ ap (λ h. h.passes) e.hand
      ]);
    })
