use Rattle.std.proofs.Common.{◌≡◌, ◌+◌, ◌<◌, ℕ, List, [], ◌∷◌, ◌++◌, length, map, take, arith, ap, sym, ◌∙◌, subst, length-append, All}
use Rattle.std.proofs.lemmas.List.{length-map, map_push}
use Rattle.crossbeam_deque.specs.Handles.{view, worker_view, worker_deque, stealer_deque}
use Rattle.steal_pool.specs.declared.victim.Rest.{Rest}
use Rattle.steal_pool.specs.News.{IsNewOwn, IsFresh}
use Rattle.steal_pool.specs.Pools.{EachAt, IsRest, rest_taken}
use Rattle.list_laws.proofs.Halves.{All-front}
use Rattle.steal_pool.proofs.Places.{EachAt-push, EachAt-front, All-middle, popped, put_together, take_front}
use Rattle.steal_pool.proofs.Passes.{passes_at-popped, passes_at-unpopped, before_many, after_many}
use Rattle.steal_pool.proofs.NewKits.{fresh_kit}
use Rattle.steal_pool.proofs.making.assemble_all.Goals as goal

pub assemble-requires-clause-new : goal.assemble-requires-clause-new
assemble-requires-clause-new g c = All-middle IsNewOwn _ c.pop.new.self.items [] c.in-Some.own c.in-Some.ensures.items c.loop-own.invariant.new

pub assemble-requires-clause-passes : goal.assemble-requires-clause-passes
assemble-requires-clause-passes g c =
    let inv = c.loop-own.invariant in
    let owns = c.pop.new.self.items in
    let ids = map (λ w. worker_deque w) c.args.owns.items in
    let rest = c.in-Some-pop.rest in
    let own_is = popped c.loop-own.owns.items owns c.in-Some.own c.in-Some.ensures.items in
    let rest_is = popped c.loop-own.rests.items c.pop-in-Some.new.self.items rest c.in-Some-pop.ensures.items in
    let fits = (inv.rests _ rest rest_is.at).0 in
    let wide = length-map c.args.owns.items (λ w. worker_deque w) in
    let here : length c.pop-in-Some.new.self.items < length ids = omega (arith, wide, rest_is.longer, inv.many, inv.made) in
    omega (arith, own_is.longer, rest_is.longer, inv.many, inv.made, wide, before_many ids _ rest here fits, after_many ids _ rest here fits, passes_at-popped c.loop-own.owns.items owns c.in-Some.own c.in-Some.ensures.items, inv.passes (length owns) (omega (arith, own_is.longer)))

pub assemble-requires-clause-few : goal.assemble-requires-clause-few
assemble-requires-clause-few g c =
    let inv = c.loop-own.invariant in
    let ids = map (λ w. worker_deque w) c.args.owns.items in
    let rest = c.in-Some-pop.rest in
    let rest_is = popped c.loop-own.rests.items c.pop-in-Some.new.self.items rest c.in-Some-pop.ensures.items in
    let fits = (inv.rests _ rest rest_is.at).0 in
    let wide = length-map c.args.owns.items (λ w. worker_deque w) in
    let here : length c.pop-in-Some.new.self.items < length ids = omega (arith, wide, rest_is.longer, inv.many, inv.made) in
    omega (arith, wide, c.requires.few, before_many ids _ rest here fits, after_many ids _ rest here fits)

pub loop-own-preserved : goal.loop-own-preserved
loop-own-preserved g c =
    let inv = c.loop-own.invariant in
    let owns = c.pop.new.self.items in
    let rests = c.pop-in-Some.new.self.items in
    let own = c.in-Some.own in
    let rest = c.in-Some-pop.rest in
    let kit = c.assemble.result in
    let made = c.assemble.ensures in
    let ids = map (λ w. worker_deque w) c.args.owns.items in
    let m = length owns in
    let own_is = popped c.loop-own.owns.items owns own c.in-Some.ensures.items in
    let rest_is = popped c.loop-own.rests.items rests rest c.in-Some-pop.ensures.items in
    let wide = length-map c.args.owns.items (λ w. worker_deque w) in
    let as_many : length rests ≡ m = omega (arith, own_is.longer, rest_is.longer, inv.many) in
    let known = inv.rests (length rests) rest rest_is.at in
    let fits : IsRest ids m rest = subst (λ (n : ℕ). IsRest ids n rest) as_many known.0 in
    let here : m < length ids = omega (arith, wide, own_is.longer, inv.made) in
    let split = take_front (map (λ w. worker_deque w) owns) ids (worker_deque own) m (length-map owns (λ w. worker_deque w))
    (sym (map_push (λ w. worker_deque w) owns own) ∙ ap (λ l. map (λ w. worker_deque w) l) (sym c.in-Some.ensures.items) ∙ inv.deques ∙ ap (λ n. take n ids) own_is.longer) in
    let pool : kit.pool ≡ ids =
    made.pool
    ∙ ap (λ l. l ++ worker_deque own ∷ map (λ v. stealer_deque v.thief) rest.after.items) fits.before
    ∙ ap (λ l. take m ids ++ worker_deque own ∷ l) fits.after
    ∙ put_together ids m (worker_deque own) split.1 in
    let fresh_own : IsNewOwn own = All-middle IsNewOwn _ owns [] own c.in-Some.ensures.items inv.new in
    let fresh : IsFresh kit = fresh_kit kit (map (λ v. view v.pass) rest.before.items) (map (λ v. view v.pass) rest.after.items) (worker_view own) made.hands (made.place ∙ sym (length-map rest.before.items (λ v. view v.pass))) fresh_own.put fresh_own.taken known.1 made.misses in
    let place = made.place ∙ before_many ids m rest here fits in
    record {
      deques = split.0;
      new = All-front IsNewOwn owns (own ∷ []) (subst (All IsNewOwn) c.in-Some.ensures.items inv.new);
      passes = λ i within. omega (arith, inv.passes i (omega (arith, own_is.longer)), passes_at-unpopped c.loop-own.owns.items owns own i c.in-Some.ensures.items within);
      many = as_many;
      rests = EachAt-front (λ i r. IsRest ids i r × (rest_taken r ≡ [])) rests (rest ∷ []) (subst (λ (l : List (Rest _)). EachAt l (λ i r. IsRest ids i r × (rest_taken r ≡ []))) c.in-Some-pop.ensures.items inv.rests);
      made = rw c.in_ok-push.ensures.items (omega (arith, length-append c.loop-own.kits.items (kit ∷ []), inv.made, own_is.longer));
      each = rw c.in_ok-push.ensures.items (EachAt-push (λ i k. (k.pool ≡ ids) × (k.place + i + 1 ≡ length c.args.owns.items) × IsFresh k) c.loop-own.kits.items kit inv.each (pool, omega (arith, inv.made, own_is.longer, place), fresh));
    }
