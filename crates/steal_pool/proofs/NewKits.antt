-- The kits of new deques.
use Rattle.std.proofs.Common.{◌≡◌, ℕ, ◌+◌, ◌-◌, ◌<◌, List, [], ◌∷◌, ◌++◌, length, reverse, get_or, sym, refl, ap, ◌∙◌, arith, slice_get, Some, All}
use Rattle.std.proofs.lemmas.Grind.{flat_map-append}
use Rattle.std.proofs.lemmas.List.{get_or_at, length-reverse}
use Rattle.std.proofs.lemmas.Option.{slice_get-get_or}
use Rattle.steal_pool.specs.declared.hand.Hand.{Hand}
use Rattle.steal_pool.specs.Rule.{hand, takes_of}
use Rattle.steal_pool.specs.Kits.{DequeId, KitView}
use Rattle.steal_pool.specs.News.{IsFresh}
use Rattle.steal_pool.specs.Pools.{EachAt, IsWhole, pool_of}
use Rattle.steal_pool.proofs.Places.{slice_get-reverse}

-- joined lists of which nothing comes
none_joined : {A : Type 0} (xs ys : List A) → xs ++ ys ≡ [] → (xs ≡ []) × (ys ≡ [])
none_joined [] ys e = (refl, e)
none_joined (x ∷ xs) ys e = absurd (cc e)

module _ {T : Type 0} where
  -- where nothing was put at the own deque, and nothing taken anywhere
  pub fresh_kit : (k : KitView T) (xs ys : List (Hand T)) (v : Hand T) → k.hands ≡ xs ++ v ∷ ys → k.place ≡ length xs → v.put ≡ [] → v.taken ≡ [] → takes_of xs ++ takes_of ys ≡ [] → k.misses ≡ 0 → IsFresh k
  fresh_kit k xs ys v hands place put taken none misses =
      let both = none_joined (takes_of xs) (takes_of ys) none in
      record {
        put =
            ap (λ (hs : List (Hand T)). (get_or hs k.place (hand 0 [] [])).put) hands
            ∙ ap (λ (h : Hand T). h.put) (get_or_at xs v ys (hand 0 [] []) k.place (sym place))
            ∙ put;
        taken =
            ap takes_of hands
            ∙ flat_map-append (λ (h : Hand T). h.taken) xs (v ∷ ys)
            ∙ ap (λ (l : List T). l ++ (v.taken ++ takes_of ys)) both.0
            ∙ ap (λ (l : List T). l ++ takes_of ys) taken
            ∙ both.1;
        misses = misses;
      }

  -- the pool of a first kit
  pool_of-first : (ks : List (KitView T)) (ids : List DequeId) → 0 < length ks → ((i : ℕ) (k : KitView T) → slice_get ks i ≡ Some k → k.pool ≡ ids) → pool_of ks ≡ ids
  pool_of-first [] ids some each = absurd (omega arith)
  pool_of-first (k ∷ ks) ids some each = each 0 k refl

  -- the kits that were made from the last place on, turned round
  pub whole_turned : (kits : List (KitView T)) (ids : List DequeId) (n : ℕ) → 0 < n → length kits ≡ n → length ids ≡ n → EachAt kits (λ i k. (k.pool ≡ ids) × (k.place + i + 1 ≡ n) × IsFresh k) →
      IsWhole (reverse kits) × All IsFresh (reverse kits)
  whole_turned kits ids n some many wide each =
      let turned = reverse kits in
      let long : length turned ≡ n = length-reverse kits ∙ many in
      let at : (i : ℕ) (k : KitView T) → slice_get turned i ≡ Some k → (k.pool ≡ ids) × (k.place ≡ i) × IsFresh k =
      λ i k e.
      let there = slice_get-reverse kits i k e in
      let known = each (length kits - 1 - i) k there.1 in
      (known.0, omega (arith, there.0, known.1, many), known.2) in
      let pool = pool_of-first turned ids (omega (arith, long)) (λ i k e. (at i k e).0) in (
        record { all = long ∙ sym wide ∙ ap length (sym pool); each = λ i k e. ((at i k e).0 ∙ sym pool, (at i k e).1) },
        All-fresh turned (λ i k e. (at i k e).2),
      )
    where
      All-fresh : (ks : List (KitView T)) → ((i : ℕ) (k : KitView T) → slice_get ks i ≡ Some k → IsFresh k) → All IsFresh ks
      All-fresh ks each i d here = each i (get_or ks i d) (slice_get-get_or ks i d here)
