use Rattle.std.proofs.Common.{◌≡◌, ◌≢◌, ◌+◌, ◌-◌, ◌<◌, ⊎_elim, inl, inr, ℕ, [], ◌∷◌, ◌++◌, length, map, take, drop, set, slice_get, Some, arith, ap, sym, ◌∙◌, subst}
use Rattle.std.proofs.lemmas.Bool.{cases_lt}
use Rattle.std.proofs.lemmas.List.{map_push}
use Rattle.std.proofs.lemmas.List.Elements.{All-get_or, All-set}
use Rattle.std.proofs.lemmas.Grind.{flat_map-append}
use Rattle.std.proofs.Math.ListN.{length-set}
use Rattle.crossbeam_deque.specs.Handles.{view, worker_view, worker_deque, stealer_deque}
use Rattle.steal_pool.specs.Rule.{takes_of}
use Rattle.steal_pool.specs.News.{IsNewOwn}
use Rattle.steal_pool.specs.Pools.{passes_at}
use Rattle.steal_pool.proofs.Places.{map_kept, slice_get_map_read, slice_get-drop, take_one_more}
use Rattle.steal_pool.proofs.Passes.{passes_at-read, passes_at-written, passes_at-unwritten}
use Rattle.steal_pool.proofs.making.deal_range.Goals as goal

pub deal_one-requires-clause-new : goal.deal_one-requires-clause-new
deal_one-requires-clause-new g c =
    subst IsNewOwn (sym c.index_mut-own.ensures.value) (All-get_or IsNewOwn c.loop-at.owns.items c.loop-at.at c.index_mut-own.result.now (omega arith) c.loop-at.invariant.new)

pub deal_one-requires-clause-passes : goal.deal_one-requires-clause-passes
deal_one-requires-clause-passes g c =
    let left = c.loop-at.invariant.left c.loop-at.at (omega arith) (omega arith) in
    let is = passes_at-read c.loop-at.owns.items c.loop-at.at c.index_mut-own.result.now (omega arith) c.index_mut-own.ensures.value in
    omega arith

pub loop-at-preserved : goal.loop-at-preserved
loop-at-preserved g c =
    let inv = c.loop-at.invariant in
    let ws = c.loop-at.owns.items in
    let at = c.loop-at.at in
    let from = c.args.from in
    let read = c.index_mut-own.result.now in
    let new = c.deal_one.new.own in
    let victim = c.in_ok-deal_one.field-0 in
    let below : at < length ws = omega arith in
    let ids = map (λ w. worker_deque w) c.args.owns.now.items in
    let was = passes_at-read ws at read below c.index_mut-own.ensures.value in
    let is = passes_at-written ws at new below in
    let there = λ (i : ℕ) (differ : i ≢ at). passes_at-unwritten ws at i new differ in
    let here : slice_get ids at ≡ Some (worker_deque read) = ap (λ l. slice_get l at) (sym inv.same) ∙ slice_get_map_read (λ w. worker_deque w) ws at read below c.index_mut-own.ensures.value in
    let back : from + (at - from) ≡ at = omega arith in
    let more : at - from + 1 ≡ at + 1 - from = omega arith in
    let next : slice_get (drop from ids) (at - from) ≡ Some (stealer_deque victim.thief) = slice_get-drop ids from (at - from) ∙ ap (λ n. slice_get ids n) back ∙ here ∙ ap Some (sym c.in_ok-deal_one.ensures.victim) in
    record {
      low = omega arith;
      high = omega (arith, length-set ws at new);
      same = map_kept (λ w. worker_deque w) ws at read new below c.index_mut-own.ensures.value c.in_ok-deal_one.ensures.same ∙ inv.same;
      new = All-set IsNewOwn ws at new c.in_ok-deal_one.ensures.new inv.new;
      left = λ i low high. omega (arith, inv.left i (omega arith) high, there i (λ e. omega arith));
      passes = λ i low high. elim (cases_lt i at) [
        | inl earlier ↦ omega (arith, inv.passes i low earlier, there i (λ e. omega arith))
        | inr last ↦ (let e : at ≡ i = omega arith in
            subst (λ (n : ℕ). passes_at (map (λ w. worker_view w) (set ws at new)) n + 1 ≡ passes_at (map (λ w. worker_view w) c.args.owns.now.items) n) e
            (omega (arith, is, was, c.in_ok-deal_one.ensures.passes, inv.others at (inr (omega arith)))))
      ];
      others = λ i out. there i (λ e. ⊎_elim (λ h. omega arith) (λ h. omega arith) out) ∙ inv.others i (⊎_elim inl (λ h. inr (omega arith)) out);
      victims = rw c.in_ok-push.ensures.items (
          map_push (λ v. stealer_deque v.thief) c.loop-at.victims.items victim
          ∙ ap (λ l. l ++ stealer_deque victim.thief ∷ []) inv.victims
          ∙ sym (take_one_more (drop from ids) (at - from) (stealer_deque victim.thief) next)
          ∙ ap (λ n. take n (drop from ids)) more
          );
      taken = rw c.in_ok-push.ensures.items (
          ap takes_of (map_push (λ v. view v.pass) c.loop-at.victims.items victim)
          ∙ flat_map-append (λ h. h.taken) (map (λ v. view v.pass) c.loop-at.victims.items) (view victim.pass ∷ [])
          ∙ ap (λ l. l ++ ((view victim.pass).taken ++ [])) inv.taken
          ∙ ap (λ l. l ++ []) c.in_ok-deal_one.ensures.taken
          );
    }
