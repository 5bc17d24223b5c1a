-- What all owners know, as passes come back and deques are emptied.
use Rattle.std.proofs.Common.{◌≡◌, ℕ, ◌+◌, ◌<◌, ◌≤◌, List, [], ◌∷◌, ◌++◌, length, map, take, drop, get_or, inl, inr, sym, ap, ◌∙◌, subst, arith, append_assoc, IsPermutation, length-append, slice_get, Some, All}
use Rattle.std.specs.declared.alloc.Global.{Global}
use Rattle.std.specs.List.{flat_map}
use Rattle.std.proofs.lemmas.Bool.{cases_lt}
use Rattle.std.proofs.lemmas.Grind.{flat_map-append}
use Rattle.std.proofs.lemmas.List.{length-map, map_push, get_or_at, take_at, drop_at}
use Rattle.std.proofs.lemmas.List.Elements.{All-push}
use Rattle.std.proofs.lemmas.List.Sorted.{IsPermutation-trans, IsPermutation-append, IsPermutation-append_left, IsPermutation-append_right, IsPermutation-append_comm}
use Rattle.crossbeam_deque.specs.declared.handles.Worker.{Worker}
use Rattle.crossbeam_deque.specs.Handles.{view, worker_view, worker_deque, stealer_deque}
use Rattle.steal_pool.specs.declared.hand.Hand.{Hand}
use Rattle.steal_pool.specs.declared.deque.NoneLost.{NoneLost}
use Rattle.steal_pool.specs.declared.victim.Rest.{Rest}
use Rattle.steal_pool.specs.Rule.{hand, puts_of, takes_of}
use Rattle.steal_pool.specs.Kits.{DequeId, KitView, put_of, taken_of}
use Rattle.steal_pool.specs.Pools.{EachAt, IsWhole, IsOwner, IsRest, pool_of, passes_at, rest_taken}
use Rattle.list_laws.proofs.Changed.{flat_map-push}
use Rattle.list_laws.proofs.Exchanges.{IsPermutation-same, IsPermutation-swap_last, IsPermutation-swap_inner}
use Rattle.steal_pool.proofs.Places.{EachAt-push, slice_get_at, take_one_more}
use Rattle.steal_pool.proofs.Passes.{passes_at-last, passes_at-front}

module _ {T : Type 0} where
  -- one deque more is empty
  pub drained_more : (hs : List (Hand T)) (h : Hand T) (out out' : List T) → IsPermutation (puts_of hs) (takes_of hs ++ out) → IsPermutation (h.put ++ out) (h.taken ++ out') → IsPermutation (puts_of (hs ++ h ∷ [])) (takes_of (hs ++ h ∷ []) ++ out')
  drained_more hs h out out' so_far more =
      IsPermutation-trans _ _ _ (IsPermutation-same _ _ (flat_map-push (λ (v : Hand T). v.put) hs h))
      (IsPermutation-trans _ _ _ (IsPermutation-append_left h.put _ _ so_far)
      (IsPermutation-trans _ _ _ (IsPermutation-same _ _ (append_assoc (takes_of hs) out h.put))
      (IsPermutation-trans _ _ _ (IsPermutation-append_right (takes_of hs) _ _ (IsPermutation-trans _ _ _ (IsPermutation-append_comm out h.put) more))
      (IsPermutation-same _ _ (sym (append_assoc (takes_of hs) h.taken out') ∙ ap (λ (l : List T). l ++ out') (sym (flat_map-push (λ (v : Hand T). v.taken) hs h)))))))

  -- the passes of one kit more are back: those before its place, and those after it
  pub given_more : (taken taken1 taken2 before after rests all : List T) → IsPermutation taken1 (taken ++ before) → IsPermutation taken2 (taken1 ++ after) → IsPermutation (taken ++ (rests ++ (before ++ after))) all → IsPermutation (taken2 ++ rests) all
  given_more taken taken1 taken2 before after rests all first second so_far =
      IsPermutation-trans _ _ _ (IsPermutation-append_left rests _ _ (IsPermutation-trans _ _ _ second (IsPermutation-append_left after _ _ first)))
      (IsPermutation-trans _ _ _ (IsPermutation-same _ _ (ap (λ (l : List T). l ++ rests) (append_assoc taken before after)))
      (IsPermutation-trans _ _ _ (IsPermutation-swap_last taken (before ++ after) rests)
      (IsPermutation-trans _ _ _ (IsPermutation-same _ _ (append_assoc taken rests (before ++ after))) so_far)))

  -- a kit, taken apart
  pub record Parts (k : KitView T) (own : Worker T Global (Hand T) NoneLost) (r : Rest T) : Type 0 where
    pub pool : k.pool ≡ map (λ v. stealer_deque v.thief) r.before.items ++ worker_deque own ∷ map (λ v. stealer_deque v.thief) r.after.items
    pub place : k.place ≡ length r.before.items
    pub hands : k.hands ≡ map (λ v. view v.pass) r.before.items ++ worker_view own ∷ map (λ v. view v.pass) r.after.items
    pub owner : IsOwner own
    pub passes : (worker_view own).passes + (length r.before.items + length r.after.items) ≡ 16
    pub few : length r.before.items + length r.after.items ≤ 15

  -- what the kit put is what the owner knows
  parts_put : (k : KitView T) (own : Worker T Global (Hand T) NoneLost) (r : Rest T) → Parts k own r → put_of k ≡ (worker_view own).put
  parts_put k own r parts =
      let xs = map (λ v. view v.pass) r.before.items in
      let ys = map (λ v. view v.pass) r.after.items in
      ap (λ (hs : List (Hand T)). (get_or hs k.place (hand 0 [] [])).put) parts.hands
      ∙ ap (λ (h : Hand T). h.put) (get_or_at xs (worker_view own) ys (hand 0 [] []) k.place (length-map r.before.items (λ v. view v.pass) ∙ sym parts.place))

  -- what it took is what the owner and its passes know
  parts_taken : (k : KitView T) (own : Worker T Global (Hand T) NoneLost) (r : Rest T) → Parts k own r → IsPermutation (taken_of k) ((worker_view own).taken ++ rest_taken r)
  parts_taken k own r parts =
      let xs = map (λ v. view v.pass) r.before.items in
      let ys = map (λ v. view v.pass) r.after.items in
      let h = worker_view own in
      let all : taken_of k ≡ takes_of xs ++ (h.taken ++ takes_of ys) = ap takes_of parts.hands ∙ flat_map-append (λ (u : Hand T). u.taken) xs (h ∷ ys) in
      IsPermutation-trans _ _ _ (IsPermutation-same _ _ (all ∙ sym (append_assoc (takes_of xs) h.taken (takes_of ys))))
      (IsPermutation-trans _ _ _ (IsPermutation-append_left (takes_of ys) _ _ (IsPermutation-append_comm (takes_of xs) h.taken))
      (IsPermutation-same _ _ (append_assoc h.taken (takes_of xs) (takes_of ys))))

  -- the owners and passes of the first kits of a pool
  pub record Apart (kits done : List (KitView T)) (owns : List (Worker T Global (Hand T) NoneLost)) (rests : List (Rest T)) : Type 0 where
    pub owns_many : length owns ≡ length done
    pub rests_many : length rests ≡ length done
    pub deques : map (λ w. worker_deque w) owns ≡ take (length done) (pool_of kits)
    pub owner : All IsOwner owns
    pub passes : (i : ℕ) → i < length done → passes_at (map (λ w. worker_view w) owns) i + length kits ≡ 17
    pub few : 0 < length done → length kits ≤ 16
    pub each : EachAt rests (IsRest (pool_of kits))
    pub put : flat_map put_of done ≡ puts_of (map (λ w. worker_view w) owns)
    pub taken : IsPermutation (flat_map taken_of done) (takes_of (map (λ w. worker_view w) owns) ++ flat_map rest_taken rests)

  -- one kit more
  pub apart_more : (kits done : List (KitView T)) (owns : List (Worker T Global (Hand T) NoneLost)) (rests : List (Rest T)) (k : KitView T) (own : Worker T Global (Hand T) NoneLost) (r : Rest T) →
      IsWhole kits → slice_get kits (length done) ≡ Some k → Parts k own r → Apart kits done owns rests → Apart kits (done ++ k ∷ []) (owns ++ own ∷ []) (rests ++ r ∷ [])
  apart_more kits done owns rests k own r whole next parts so_far = record {
    owns_many = omega (arith, so_far.owns_many, longer, length-append owns (own ∷ []));
    rests_many = omega (arith, so_far.rests_many, longer, length-append rests (r ∷ []));
    deques =
        map_push (λ w. worker_deque w) owns own
        ∙ ap (λ (l : List DequeId). l ++ worker_deque own ∷ []) so_far.deques
        ∙ sym (take_one_more ids n (worker_deque own) at)
        ∙ ap (λ (m : ℕ). take m ids) (sym longer);
    owner = All-push IsOwner owns own so_far.owner parts.owner;
    passes = λ i within. ap (λ (l : List (Hand T)). passes_at l i + length kits) (map_push (λ w. worker_view w) owns own) ∙ (elim (cases_lt i n) [
      | inl earlier ↦ ap (λ (m : ℕ). m + length kits) (passes_at-front hands (worker_view own) i (omega (arith, earlier, wide, so_far.owns_many))) ∙ so_far.passes i earlier
      | inr last ↦ ap (λ (m : ℕ). m + length kits) (passes_at-last hands (worker_view own) i (omega (arith, last, within, longer, wide, so_far.owns_many))) ∙ share
    ]);
    few = λ _. omega (arith, all, parts.few);
    each = EachAt-push (IsRest ids) rests r so_far.each (subst (λ (m : ℕ). IsRest ids m r) (sym so_far.rests_many) rest);
    put =
        flat_map-push put_of done k
        ∙ ap (λ (l : List T). flat_map put_of done ++ l) (parts_put k own r parts)
        ∙ ap (λ (l : List T). l ++ (worker_view own).put) so_far.put
        ∙ sym (flat_map-push (λ (v : Hand T). v.put) hands (worker_view own))
        ∙ ap puts_of (sym (map_push (λ w. worker_view w) owns own));
    taken =
        IsPermutation-trans _ _ _ (IsPermutation-same _ _ (flat_map-push taken_of done k))
        (IsPermutation-trans _ _ _ (IsPermutation-append (flat_map taken_of done) (takes_of hands ++ flat_map rest_taken rests) (taken_of k) ((worker_view own).taken ++ rest_taken r) so_far.taken (parts_taken k own r parts))
        (IsPermutation-trans _ _ _ (IsPermutation-swap_inner (takes_of hands) (flat_map rest_taken rests) (worker_view own).taken (rest_taken r))
        (IsPermutation-same _ _ (
        ap (λ (l : List T). l ++ (flat_map rest_taken rests ++ rest_taken r)) (sym (flat_map-push (λ (v : Hand T). v.taken) hands (worker_view own)) ∙ ap takes_of (sym (map_push (λ w. worker_view w) owns own)))
        ∙ ap (λ (l : List T). takes_of (map (λ w. worker_view w) (owns ++ own ∷ [])) ++ l) (sym (flat_map-push rest_taken rests r))
        ))));
  }
    where
      n : ℕ
      n = length done

      ids : List DequeId
      ids = pool_of kits

      hands : List (Hand T)
      hands = map (λ w. worker_view w) owns

      bs : List DequeId
      bs = map (λ v. stealer_deque v.thief) r.before.items

      cs : List DequeId
      cs = map (λ v. stealer_deque v.thief) r.after.items

      longer : length (done ++ k ∷ []) ≡ length done + 1
      longer = length-append done (k ∷ [])

      wide : length hands ≡ length owns
      wide = length-map owns (λ w. worker_view w)

      is : ids ≡ bs ++ worker_deque own ∷ cs
      is = sym (whole.each (length done) k next).0 ∙ parts.pool

      before_is : length bs ≡ n
      before_is = length-map r.before.items (λ v. stealer_deque v.thief) ∙ sym parts.place ∙ (whole.each (length done) k next).1

      all : length kits ≡ length r.before.items + length r.after.items + 1
      all = omega (arith, whole.all, ap length is, length-append bs (worker_deque own ∷ cs), length-map r.before.items (λ v. stealer_deque v.thief), length-map r.after.items (λ v. stealer_deque v.thief))

      share : (worker_view own).passes + length kits ≡ 17
      share = omega (arith, all, parts.passes)

      at : slice_get ids n ≡ Some (worker_deque own)
      at = ap (λ (l : List DequeId). slice_get l n) is ∙ ap (λ (m : ℕ). slice_get (bs ++ worker_deque own ∷ cs) m) (sym before_is) ∙ slice_get_at bs cs (worker_deque own)

      rest : IsRest ids n r
      rest = record {
        before = sym (ap (take n) is ∙ take_at bs (worker_deque own ∷ cs) n before_is);
        after = sym (
            ap (drop (n + 1)) (is ∙ sym (append_assoc bs (worker_deque own ∷ []) cs))
            ∙ drop_at (bs ++ worker_deque own ∷ []) cs (n + 1) (omega (arith, before_is, length-append bs (worker_deque own ∷ [])))
            );
      }
