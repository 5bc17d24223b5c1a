use Rattle.std.proofs.Common.{◌≡◌, ◌≢◌, ◌+◌, ◌<◌, ◌++◌, ◌⊎◌, ⊎_elim, inl, inr, ℕ, [], ◌∷◌, length, map, slice_get, Some, arith, ap, sym, ◌∙◌, subst}
use Rattle.std.specs.Option.{option_map}
use Rattle.std.proofs.lemmas.Bool.{cases_order}
use Rattle.std.proofs.lemmas.List.{length-map, map_push}
use Rattle.std.proofs.lemmas.List.Sorted.{IsPermutation-trans}
use Rattle.std.proofs.lemmas.Option.{slice_get-map}
use Rattle.crossbeam_deque.specs.Handles.{view, worker_view, worker_deque, stealer_deque}
use Rattle.steal_pool.specs.Rule.{puts_of}
use Rattle.steal_pool.specs.Pools.{passes_at}
use Rattle.steal_pool.proofs.Places.{popped, slice_get_front}
use Rattle.steal_pool.proofs.Passes.{passes_at-with_pass, passes_at-without, puts_of-with_pass, takes_of-with_pass}
use Rattle.steal_pool.proofs.settling.give_range.Goals as goal

pub give_one-requires : goal.give_one-requires
give_one-requires g c =
    let inv = c.loop-victim.invariant in
    let rest = c.pop.new.self.items in
    let victim = c.in-Some.victim in
    let n : c.len.result ≡ length rest = omega (arith, c.len.ensures, c.pop.new.self.ok) in
    let last = popped c.loop-victim.victims.items rest victim c.in-Some.ensures.items in
    let here : slice_get (map (λ v. stealer_deque v.thief) c.loop-victim.victims.items) c.len.result ≡ Some (stealer_deque victim.thief) =
    slice_get-map (λ v. stealer_deque v.thief) c.loop-victim.victims.items c.len.result ∙ ap (λ k. option_map (λ v. stealer_deque v.thief) (slice_get c.loop-victim.victims.items k)) n ∙ ap (option_map (λ v. stealer_deque v.thief)) last.at in
    record {
      owner = inv.owner;
      room = omega (arith, n, last.longer, inv.room);
      victim = sym (inv.victims c.len.result (omega (arith, n, last.longer))) ∙ here;
      some = inv.some (c.args.from + c.len.result) (omega (arith, n, last.longer, inv.room));
    }

pub loop-victim-preserved : goal.loop-victim-preserved
loop-victim-preserved g c =
    let inv = c.loop-victim.invariant in
    let rest = c.pop.new.self.items in
    let old = c.loop-victim.owns.items in
    let new = c.give_one.new.owns.items in
    let at = c.args.from + c.len.result in
    let gave = c.give_one.ensures in
    let hands = map (λ w. worker_view w) old in
    let hands' = map (λ w. worker_view w) new in
    let x = view c.in-Some.victim.pass in
    let n : c.len.result ≡ length rest = omega (arith, c.len.ensures, c.pop.new.self.ok) in
    let last = popped c.loop-victim.victims.items rest c.in-Some.victim c.in-Some.ensures.items in
    let as_many : length new ≡ length old = sym (length-map new (λ w. worker_deque w)) ∙ ap length gave.same ∙ length-map old (λ w. worker_deque w) in
    let below : at < length hands = omega (arith, n, last.longer, inv.room, length-map old (λ w. worker_view w)) in
    let here : passes_at hands' at ≡ passes_at hands at + 1 = ap (λ l. passes_at l at) gave.hands ∙ passes_at-with_pass hands at x.taken below in
    let there : (i : ℕ) → i ≢ at → passes_at hands' i ≡ passes_at hands i = λ i differ. ap (λ l. passes_at l i) gave.hands ∙ passes_at-without hands at i x.taken differ in
    let at_or_not : (i : ℕ) → ((passes_at hands' i ≡ passes_at hands i + 1) × (i ≡ at)) ⊎ ((passes_at hands' i ≡ passes_at hands i) × (i ≢ at)) =
    λ i. elim (cases_order i at) [
      | inl e ↦ inl (subst (λ (k : ℕ). passes_at hands' k ≡ passes_at hands k + 1) (sym e) here, e)
      | inr o ↦ (let differ : i ≢ at = λ e. ⊎_elim (λ h. omega arith) (λ h. omega arith) o in inr (there i differ, differ))
    ] in
    record {
      owner = gave.owner;
      room = omega (arith, as_many, last.longer, inv.room);
      fewer = omega (arith, last.longer, inv.fewer);
      victims = λ k h.
          sym (slice_get-map (λ v. stealer_deque v.thief) c.loop-victim.victims.items k ∙ ap (λ l. option_map (λ v. stealer_deque v.thief) (slice_get l k)) c.in-Some.ensures.items ∙ ap (option_map (λ v. stealer_deque v.thief)) (slice_get_front rest (c.in-Some.victim ∷ []) k h) ∙ sym (slice_get-map (λ v. stealer_deque v.thief) rest k))
          ∙ inv.victims k (omega (arith, last.longer))
          ∙ ap (λ l. slice_get l (c.args.from + k)) (sym gave.same);
      some = λ i h. ⊎_elim (λ here. omega (arith, here.0)) (λ there. omega (arith, there.0, inv.some i (omega (arith, as_many)))) (at_or_not i);
      same = gave.same ∙ inv.same;
      taken =
          (let one = takes_of-with_pass hands (map (λ v. view v.pass) rest) at x below in
          let all : map (λ v. view v.pass) rest ++ x ∷ [] ≡ map (λ v. view v.pass) c.loop-victim.victims.items = sym (map_push (λ v. view v.pass) rest c.in-Some.victim) ∙ ap (λ l. map (λ v. view v.pass) l) (sym c.in-Some.ensures.items) in
          rw gave.hands (IsPermutation-trans _ _ _ (rw all at one) inv.taken));
      put = ap puts_of gave.hands ∙ puts_of-with_pass hands at x.taken below ∙ inv.put;
      passes = λ i low high. ⊎_elim
          (λ here. omega (arith, here.0, inv.others i (inl (omega (arith, here.1, n, last.longer)))))
          (λ there. there.0 ∙ inv.passes i (let past : (i ≡ at) → ⊥ = there.1 in omega (arith, n, last.longer, low, past)) high)
          (at_or_not i);
      others = λ i out.
          there i (λ e. ⊎_elim (λ h. absurd (omega (arith, n, e, h))) (λ h. absurd (omega (arith, n, e, h, last.longer, inv.fewer))) out)
          ∙ inv.others i (⊎_elim (λ h. inl (omega (arith, last.longer))) inr out);
    }
