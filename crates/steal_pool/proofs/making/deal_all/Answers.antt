use Rattle.std.proofs.Common.{◌≡◌, ◌+◌, ◌-◌, inl, inr, ℕ, [], ◌∷◌, ◌++◌, length, map, take, drop, arith, ap, sym, ◌∙◌, subst, length-append, length-drop}
use Rattle.std.proofs.lemmas.Bool.{cases_lt}
use Rattle.std.proofs.lemmas.List.{length-map, take_all}
use Rattle.crossbeam_deque.specs.Handles.{view, worker_deque}
use Rattle.steal_pool.specs.Rule.{takes_of}
use Rattle.steal_pool.specs.Pools.{IsRest, rest_taken}
use Rattle.steal_pool.specs.declared.victim.Rest.{Rest}
use Rattle.steal_pool.proofs.Places.{EachAt-push}
use Rattle.steal_pool.proofs.making.deal_all.Goals as goal

pub loop-place-preserved : goal.loop-place-preserved
loop-place-preserved g c =
    let inv = c.loop-place.invariant in
    let place = c.loop-place.place in
    let owns = c.loop-place.owns.items in
    let owns1 = c.deal_range.new.owns.items in
    let owns2 = c.deal_range-in-loop-place.new.owns.items in
    let b = c.in_ok-before.ensures in
    let a = c.in_ok-after.ensures in
    let ids = map (λ w. worker_deque w) c.args.owns.now.items in
    let n1 : length owns1 ≡ length owns = sym (length-map owns1 (λ w. worker_deque w)) ∙ ap length b.same ∙ length-map owns (λ w. worker_deque w) in
    let n2 : length owns2 ≡ length owns1 = sym (length-map owns2 (λ w. worker_deque w)) ∙ ap length a.same ∙ length-map owns1 (λ w. worker_deque w) in
    let same : map (λ w. worker_deque w) owns1 ≡ ids = b.same ∙ inv.same in
    let whole : place - 0 ≡ place = omega arith in
    let r : Rest _ = record { before = c.in_ok-before.before; after = c.in_ok-after.after } in
    let rest : IsRest ids place r = record {
      before = b.victims ∙ ap (λ n. take n (drop 0 (map (λ w. worker_deque w) owns))) whole ∙ ap (λ l. take place l) inv.same;
      after =
          a.victims
          ∙ take_all (c.len-workers.result - (place + 1)) (drop (place + 1) (map (λ w. worker_deque w) owns1)) (omega (arith, length-drop (place + 1) (map (λ w. worker_deque w) owns1), length-map owns1 (λ w. worker_deque w), inv.workers))
          ∙ ap (λ l. drop (place + 1) l) same;
    } in
    let none : rest_taken r ≡ [] = ap (λ l. l ++ takes_of (map (λ v. view v.pass) c.in_ok-after.after.items)) b.taken ∙ a.taken in
    record {
      many = n2 ∙ n1 ∙ inv.many;
      workers = inv.workers ∙ sym (n2 ∙ n1);
      same = a.same ∙ same;
      new = a.new;
      before = λ i low within. elim (cases_lt i place) [
        | inl earlier ↦ omega (arith, b.passes i (omega arith) earlier, a.others i (inl (omega arith)), inv.before i earlier (omega arith))
        | inr last ↦ omega (arith, b.others i (inr last), a.others i (inl (omega arith)), inv.after i last (omega arith))
      ];
      after = λ i high within. omega (arith, b.others i (inr (omega arith)), a.passes i high (omega (arith, inv.workers)), inv.after i (omega arith) (omega arith));
      rests = rw c.in_ok-push.ensures.items (omega (arith, inv.rests, length-append c.loop-place.rests.items (r ∷ [])));
      each = rw c.in_ok-push.ensures.items (EachAt-push (λ i r. IsRest ids i r × (rest_taken r ≡ [])) c.loop-place.rests.items r inv.each
          (subst (λ (n : ℕ). IsRest ids n r × (rest_taken r ≡ [])) (sym inv.rests) (rest, none)));
    }
