-- For how many passes the hands of some deques stand, and the victims of a kit.
use Rattle.std.proofs.Common.{◌≡◌, ◌≢◌, ℕ, zero, suc, ◌+◌, ◌<◌, List, [], ◌∷◌, ◌++◌, length, map, set, get_or, sym, refl, ap, ◌∙◌, arith, IsPermutation, get_or-set_same, get_or-set_other, length-take-le, length-drop, append_assoc, slice_get, zero-add}
use Rattle.std.specs.declared.alloc.Global.{Global}
use Rattle.std.proofs.lemmas.List.{append-nil, length-map, map-set, map_push, nil_from_length, get_or_append_left, get_or_push}
use Rattle.std.proofs.lemmas.List.Sorted.{IsPermutation-trans, IsPermutation-append_left}
use Rattle.crossbeam_deque.specs.declared.handles.Worker.{Worker}
use Rattle.crossbeam_deque.specs.Handles.{worker_view, stealer_deque}
use Rattle.steal_pool.specs.declared.hand.Hand.{Hand}
use Rattle.steal_pool.specs.declared.deque.NoneLost.{NoneLost}
use Rattle.steal_pool.specs.declared.victim.Rest.{Rest}
use Rattle.steal_pool.specs.Rule.{hand, puts_of, takes_of}
use Rattle.steal_pool.specs.Kits.{DequeId}
use Rattle.steal_pool.specs.Pools.{passes_at, with_pass, IsRest}
use Rattle.list_laws.proofs.Changed.{flat_map-push}
use Rattle.list_laws.proofs.Exchanges.{IsPermutation-same, IsPermutation-swap_last}
use Rattle.steal_pool.proofs.KitSteps.{flat_map-set}
use Rattle.steal_pool.proofs.Places.{map_read, slice_get-take, slice_get-drop}

module _ {T : Type 0} where
  -- after a write
  pub passes_at-here : (hs : List (Hand T)) (at : ℕ) (w : Hand T) → at < length hs → passes_at (set hs at w) at ≡ w.passes
  passes_at-here hs at w here = ap (λ (u : Hand T). u.passes) (get_or-set_same hs at w (hand 0 [] []) here)

  pub passes_at-there : (hs : List (Hand T)) (at i : ℕ) (w : Hand T) → i ≢ at → passes_at (set hs at w) i ≡ passes_at hs i
  passes_at-there hs at i w differ = ap (λ (u : Hand T). u.passes) (get_or-set_other hs at i w (hand 0 [] []) differ)

  -- with one more
  pub passes_at-last : (hs : List (Hand T)) (h : Hand T) (i : ℕ) → length hs ≡ i → passes_at (hs ++ h ∷ []) i ≡ h.passes
  passes_at-last hs h i e = ap (λ (u : Hand T). u.passes) (get_or_push hs h (hand 0 [] []) i e)

  pub passes_at-front : (hs : List (Hand T)) (h : Hand T) (i : ℕ) → i < length hs → passes_at (hs ++ h ∷ []) i ≡ passes_at hs i
  passes_at-front hs h i here = ap (λ (u : Hand T). u.passes) (get_or_append_left hs (h ∷ []) (hand 0 [] []) i here)

  -- of an owner that was read
  pub passes_at-read : (ws : List (Worker T Global (Hand T) NoneLost)) (i : ℕ) (w : Worker T Global (Hand T) NoneLost) → i < length ws → w ≡ get_or ws i w → passes_at (map (λ w. worker_view w) ws) i ≡ (worker_view w).passes
  passes_at-read ws i w here read = ap (λ (u : Hand T). u.passes) (map_read (λ w. worker_view w) ws i w (hand 0 [] []) here read)

  -- of owners of which one was written to
  pub passes_at-written : (ws : List (Worker T Global (Hand T) NoneLost)) (i : ℕ) (w : Worker T Global (Hand T) NoneLost) → i < length ws → passes_at (map (λ w. worker_view w) (set ws i w)) i ≡ (worker_view w).passes
  passes_at-written ws i w here =
      ap (λ (l : List (Hand T)). passes_at l i) (map-set (λ w. worker_view w) ws i w) ∙ passes_at-here (map (λ w. worker_view w) ws) i (worker_view w) (omega (arith, here, length-map ws (λ w. worker_view w)))

  pub passes_at-unwritten : (ws : List (Worker T Global (Hand T) NoneLost)) (k i : ℕ) (w : Worker T Global (Hand T) NoneLost) → i ≢ k → passes_at (map (λ w. worker_view w) (set ws k w)) i ≡ passes_at (map (λ w. worker_view w) ws) i
  passes_at-unwritten ws k i w differ =
      ap (λ (l : List (Hand T)). passes_at l i) (map-set (λ w. worker_view w) ws k w) ∙ passes_at-there (map (λ w. worker_view w) ws) k i (worker_view w) differ

  -- of owners of which the last one was taken away
  pub passes_at-popped : (all rest : List (Worker T Global (Hand T) NoneLost)) (w : Worker T Global (Hand T) NoneLost) → all ≡ rest ++ w ∷ [] → passes_at (map (λ w. worker_view w) all) (length rest) ≡ (worker_view w).passes
  passes_at-popped all rest w e =
      ap (λ l. passes_at (map (λ w. worker_view w) l) (length rest)) e
      ∙ ap (λ (l : List (Hand T)). passes_at l (length rest)) (map_push (λ w. worker_view w) rest w)
      ∙ passes_at-last (map (λ w. worker_view w) rest) (worker_view w) (length rest) (length-map rest (λ w. worker_view w))

  pub passes_at-unpopped : (all rest : List (Worker T Global (Hand T) NoneLost)) (w : Worker T Global (Hand T) NoneLost) (i : ℕ) → all ≡ rest ++ w ∷ [] → i < length rest →
      passes_at (map (λ w. worker_view w) all) i ≡ passes_at (map (λ w. worker_view w) rest) i
  passes_at-unpopped all rest w i e here =
      ap (λ l. passes_at (map (λ w. worker_view w) l) i) e
      ∙ ap (λ (l : List (Hand T)). passes_at l i) (map_push (λ w. worker_view w) rest w)
      ∙ passes_at-front (map (λ w. worker_view w) rest) (worker_view w) i (omega (arith, here, length-map rest (λ w. worker_view w)))

  -- how many victims of a kit come before it, and after it
  pub before_many : (ids : List DequeId) (place : ℕ) (r : Rest T) → place < length ids → IsRest ids place r → length r.before.items ≡ place
  before_many ids place r here rest = sym (length-map r.before.items (λ v. stealer_deque v.thief)) ∙ ap length rest.before ∙ length-take-le place ids (omega arith)

  pub after_many : (ids : List DequeId) (place : ℕ) (r : Rest T) → place < length ids → IsRest ids place r → length r.after.items + (place + 1) ≡ length ids
  after_many ids place r here rest = omega (arith, here, ap length rest.after, length-map r.after.items (λ v. stealer_deque v.thief), length-drop (place + 1) ids)

  -- the victims of the kit at a place, one by one
  pub record Victims (ids : List DequeId) (place : ℕ) (r : Rest T) : Type 0 where
    pub before_many : length r.before.items ≡ place
    pub after_many : length r.after.items + (place + 1) ≡ length ids
    pub before : (k : ℕ) → k < length r.before.items → slice_get (map (λ v. stealer_deque v.thief) r.before.items) k ≡ slice_get ids (0 + k)
    pub after : (k : ℕ) → k < length r.after.items → slice_get (map (λ v. stealer_deque v.thief) r.after.items) k ≡ slice_get ids (place + 1 + k)

  pub victims_of : (ids : List DequeId) (place : ℕ) (r : Rest T) → place < length ids → IsRest ids place r → Victims ids place r
  victims_of ids place r here rest = record {
    before_many = before_many ids place r here rest;
    after_many = after_many ids place r here rest;
    before = λ k h. ap (λ (l : List DequeId). slice_get l k) rest.before ∙ slice_get-take ids place k (omega (arith, h, before_many ids place r here rest)) ∙ ap (slice_get ids) (sym (zero-add k));
    after = λ k h. ap (λ (l : List DequeId). slice_get l k) rest.after ∙ slice_get-drop ids (place + 1) k;
  }

  -- a pass comes back that put nothing and stands for one
  pub with_pass-joined : (hs : List (Hand T)) (at : ℕ) (h v w : Hand T) → get_or hs at (hand 0 [] []) ≡ h → v.passes ≡ 1 → length v.put ≡ 0 → w ≡ hand (h.passes + v.passes) (h.put ++ v.put) (h.taken ++ v.taken) → set hs at w ≡ with_pass hs at v.taken
  with_pass-joined hs at h v w is one none e =
      let put : h.put ++ v.put ≡ h.put = ap (λ (l : List T). h.put ++ l) (nil_from_length v.put none) ∙ append-nil h.put in
      ap (set hs at) (
      e
      ∙ ap (λ (n : ℕ). hand (h.passes + n) (h.put ++ v.put) (h.taken ++ v.taken)) one
      ∙ ap (λ (l : List T). hand (h.passes + 1) l (h.taken ++ v.taken)) put
      ∙ ap (λ (u : Hand T). hand (u.passes + 1) u.put (u.taken ++ v.taken)) (sym is)
      )

  pub passes_at-with_pass : (hs : List (Hand T)) (at : ℕ) (xs : List T) → at < length hs → passes_at (with_pass hs at xs) at ≡ passes_at hs at + 1
  passes_at-with_pass hs at xs here = let u = get_or hs at (hand 0 [] []) in passes_at-here hs at (hand (u.passes + 1) u.put (u.taken ++ xs)) here

  pub passes_at-without : (hs : List (Hand T)) (at i : ℕ) (xs : List T) → i ≢ at → passes_at (with_pass hs at xs) i ≡ passes_at hs i
  passes_at-without hs at i xs differ = let u = get_or hs at (hand 0 [] []) in passes_at-there hs at i (hand (u.passes + 1) u.put (u.taken ++ xs)) differ

  -- nothing changes in what was put
  pub puts_of-with_pass : (hs : List (Hand T)) (at : ℕ) (xs : List T) → at < length hs → puts_of (with_pass hs at xs) ≡ puts_of hs
  puts_of-with_pass [] at xs here = refl
  puts_of-with_pass (h ∷ hs) zero xs here = refl
  puts_of-with_pass (h ∷ hs) (suc at) xs here = ap (λ (l : List T). h.put ++ l) (puts_of-with_pass hs at xs (omega arith))

  -- what the pass took is now the owner's
  pub takes_of-with_pass : (hs vs : List (Hand T)) (at : ℕ) (x : Hand T) → at < length hs → IsPermutation (takes_of (with_pass hs at x.taken) ++ takes_of vs) (takes_of hs ++ takes_of (vs ++ x ∷ []))
  takes_of-with_pass hs vs at x here =
      let u = get_or hs at (hand 0 [] []) in
      let grown = flat_map-set (λ (h : Hand T). h.taken) hs at (hand 0 [] []) (hand (u.passes + 1) u.put (u.taken ++ x.taken)) x.taken here refl in
      let last : takes_of (vs ++ x ∷ []) ≡ takes_of vs ++ x.taken = flat_map-push (λ (h : Hand T). h.taken) vs x in
      IsPermutation-trans _ _ _ (IsPermutation-append_left (takes_of vs) _ _ grown)
      (IsPermutation-trans _ _ _ (IsPermutation-swap_last (takes_of hs) x.taken (takes_of vs))
      (IsPermutation-same _ _ (append_assoc (takes_of hs) (takes_of vs) x.taken ∙ ap (λ (l : List T). takes_of hs ++ l) (sym last))))
