-- What a step at one deque makes of what a kit knows of all.
use Rattle.std.proofs.Common.{◌≡◌, inl, inr, ℕ, suc, ◌+◌, ◌-◌, ◌<◌, List, [], ◌∷◌, ◌++◌, length, map, set, get_or, sym, refl, ap, ◌∙◌, subst, arith, IsPermutation, length-append, get_or-set_same, get_or-set_other}
use Rattle.std.specs.List.{flat_map}
use Rattle.std.proofs.lemmas.Bool.{cases_order}
use Rattle.std.proofs.lemmas.List.{append-nil, length-map, nil_from_length, set-get_or, set-append_left, set-append_right, get_or_append_left, get_or-append_right}
use Rattle.std.proofs.lemmas.List.Sorted.{IsPermutation-sym, length_permutation}
use Rattle.std.proofs.lemmas.Option.{slice_get-get_or, get_or_from_slice_get}
use Rattle.crossbeam_deque.proofs.Lists.{at_index}
use Rattle.steal_pool.specs.declared.hand.Hand.{Hand}
use Rattle.steal_pool.specs.declared.theft.Theft.{Theft}
use Rattle.steal_pool.specs.declared.theft.Theft.TheVariants.{Got, Empty, Beaten}
use Rattle.steal_pool.specs.Rule.{hand, with_task, takes_of, IsLeft, HeldAtOneMoment, FirstAtOneMoment, EmptyAtOneMoment}
use Rattle.steal_pool.specs.Kits.{DequeId, KitView, hand_at, TookOne}
use Rattle.steal_pool.specs.Thefts.{MatchTheft, RobsAt, Steals, misses_after}
use Rattle.list_laws.proofs.Changed.{flat_map-grown}
use Rattle.steal_pool.proofs.Balance.{whole}
use Rattle.steal_pool.proofs.Left.{left_many}

module _ {T : Type 0} where
  -- a pass that knows nothing
  abbrev none : Hand T
  none = hand 0 [] []

  -- the lists of all hands, after the list of one has grown
  pub flat_map-set : (f : Hand T → List T) (hs : List (Hand T)) (i : ℕ) (d w : Hand T) (xs : List T) → i < length hs → f w ≡ f (get_or hs i d) ++ xs → IsPermutation (flat_map f (set hs i w)) (flat_map f hs ++ xs)
  flat_map-set f hs i d w xs here more =
      let is : get_or hs i (get_or hs i d) ≡ get_or hs i d = get_or_from_slice_get hs i (get_or hs i d) (get_or hs i d) (slice_get-get_or hs i d here) in
      IsPermutation-sym _ _ (flat_map-grown f hs i (get_or hs i d) w xs (at_index hs i (get_or hs i d) here (sym is)) more)

  -- a take changes nothing that was put
  put_kept : (hs : List (Hand T)) (at place : ℕ) (x : T) → at < length hs → (get_or (set hs at (with_task (get_or hs at none) x)) place none).put ≡ (get_or hs place none).put
  put_kept hs at place x here = elim (cases_order place at) [
    | inl e ↦ ap (λ (n : ℕ). (get_or (set hs at (with_task (get_or hs at none) x)) n none).put) e ∙ ap (λ (h : Hand T). h.put) (get_or-set_same hs at (with_task (get_or hs at none) x) none here) ∙ ap (λ (n : ℕ). (get_or hs n none).put) (sym e)
    | inr o ↦ ap (λ (h : Hand T). h.put) (get_or-set_other hs at place (with_task (get_or hs at none) x) none (λ e. elim o [ inl less ↦ omega arith | inr more ↦ omega arith ]))
  ]

  -- a kit that took a task at one deque
  pub took_at : (old new : KitView T) (at : ℕ) (x : T) → at < length old.hands → new.pool ≡ old.pool → new.place ≡ old.place → new.hands ≡ set old.hands at (with_task (hand_at old at) x) → TookOne old x new
  took_at old new at x here pool place hands = record {
    pool = pool;
    place = place;
    put =
        ap (λ (n : ℕ). (get_or new.hands n none).put) place
        ∙ ap (λ (hs : List (Hand T)). (get_or hs old.place none).put) hands
        ∙ put_kept old.hands at old.place x here;
    taken = subst (λ (hs : List (Hand T)). IsPermutation (takes_of hs) (takes_of old.hands ++ x ∷ [])) (sym hands) (flat_map-set (λ h. h.taken) old.hands at none (with_task (hand_at old at) x) (x ∷ []) here refl);
  }

  -- a kit in which nothing but the misses changed
  kept : (old new : KitView T) → new.pool ≡ old.pool → new.place ≡ old.place → new.hands ≡ old.hands → new ≡ record old { misses = new.misses }
  kept old new pool place hands =
      ap (λ p. record { pool = p; place = new.place; hands = new.hands; misses = new.misses }) pool
      ∙ ap (λ (n : ℕ). record { pool = old.pool; place = n; hands = new.hands; misses = new.misses }) place
      ∙ ap (λ hs. record { pool = old.pool; place = old.place; hands = hs; misses = new.misses }) hands

  -- a kit that tried a steal
  pub stole_at : (old new : KitView T) (at : ℕ) (theft : Theft T) → at < length old.hands → new.pool ≡ old.pool → new.place ≡ old.place → new.misses ≡ misses_after old.misses theft → RobsAt old.hands at theft new.hands →
      Steals old at theft new
  stole_at old new at (Got x) here pool place misses robs = record { same = (pool, place); took = took_at old new at x here pool place robs.0; first = robs.1; misses = misses; none = tt; empty = tt }
  stole_at old new at Empty here pool place misses robs = record { same = (pool, place); took = tt; first = tt; misses = misses; none = kept old new pool place robs.0; empty = robs.1 }
  stole_at old new at Beaten here pool place misses robs = record { same = (pool, place); took = tt; first = tt; misses = misses; none = kept old new pool place robs; empty = tt }

  -- a try at one deque
  pub robs_at : (theft : Theft T) (hs : List (Hand T)) (at : ℕ) (v w : Hand T) → get_or hs at none ≡ v →
      MatchTheft theft (λ x. (w ≡ with_task v x) × FirstAtOneMoment v (x ∷ [])) ((w ≡ v) × EmptyAtOneMoment v) (w ≡ v) → RobsAt hs at theft (set hs at w)
  robs_at (Got x) hs at v w is took = (
    ap (set hs at) (took.0 ∙ ap (λ (u : Hand T). with_task u x) (sym is)),
    subst (λ (u : Hand T). FirstAtOneMoment u (x ∷ [])) (sym is) took.1,
  )
  robs_at Empty hs at v w is took = (ap (set hs at) (took.0 ∙ sym is) ∙ set-get_or hs at none, subst (λ (u : Hand T). EmptyAtOneMoment u) (sym is) took.1)
  robs_at Beaten hs at v w is same = ap (set hs at) (same ∙ sym is) ∙ set-get_or hs at none

  -- the same try, seen among more deques
  robs_among : (theft : Theft T) (few few' many many' : List (Hand T)) (i j : ℕ) → get_or many j none ≡ get_or few i none →
      ((w : Hand T) → few' ≡ set few i w → many' ≡ set many j w) → (few' ≡ few → many' ≡ many) → RobsAt few i theft few' → RobsAt many j theft many'
  robs_among (Got x) few few' many many' i j is wrote same robs = (
    wrote (with_task (get_or few i none) x) robs.0 ∙ ap (λ (u : Hand T). set many j (with_task u x)) (sym is),
    subst (λ (u : Hand T). FirstAtOneMoment u (x ∷ [])) (sym is) robs.1,
  )
  robs_among Empty few few' many many' i j is wrote same robs = (same robs.0, subst (λ (u : Hand T). EmptyAtOneMoment u) (sym is) robs.1)
  robs_among Beaten few few' many many' i j is wrote same robs = same robs

  -- a try at a deque before the own one
  pub robs_before : (theft : Theft T) (xs xs' ys : List (Hand T)) (v : Hand T) (at : ℕ) → at < length xs → RobsAt xs at theft xs' → RobsAt (xs ++ v ∷ ys) at theft (xs' ++ v ∷ ys)
  robs_before theft xs xs' ys v at here robs =
      robs_among theft xs xs' (xs ++ v ∷ ys) (xs' ++ v ∷ ys) at at (get_or_append_left xs (v ∷ ys) none at here)
      (λ w e. ap (λ (l : List (Hand T)). l ++ v ∷ ys) e ∙ sym (set-append_left xs (v ∷ ys) at w here))
      (λ e. ap (λ (l : List (Hand T)). l ++ v ∷ ys) e)
      robs

  -- a try at a deque after it
  pub robs_after : (theft : Theft T) (xs ys ys' : List (Hand T)) (v : Hand T) (n at : ℕ) → length xs ≡ n → RobsAt ys at theft ys' → RobsAt (xs ++ v ∷ ys) (n + 1 + at) theft (xs ++ v ∷ ys')
  robs_after theft xs ys ys' v n at long robs =
      let past : n + 1 + at - n ≡ suc at = omega arith in
      robs_among theft ys ys' (xs ++ v ∷ ys) (xs ++ v ∷ ys') at (n + 1 + at)
      (get_or-append_right xs (v ∷ ys) n (n + 1 + at) none long (omega arith) ∙ ap (λ (m : ℕ). get_or (v ∷ ys) m none) past)
      (λ w e. ap (λ (l : List (Hand T)). xs ++ v ∷ l) e ∙ sym (set-append_right xs (v ∷ ys) n (n + 1 + at) w long (omega arith) ∙ ap (λ (m : ℕ). xs ++ set (v ∷ ys) m w) past))
      (λ e. ap (λ (l : List (Hand T)). xs ++ v ∷ l) e)
      robs

  -- while a task is left, not all were taken
  pub some_left : (put taken later : List T) (x : T) → IsLeft put taken (x ∷ later) → IsPermutation put taken → ⊥
  some_left put taken later x left all = absurd (omega (arith, left_many put taken (x ∷ later) left, length_permutation _ _ all))

  -- in a pool of one the kit stands for all passes: it put and took all that was put and taken
  pub alone_left : {X : Type 0} (f : X → DequeId) (h : X → Hand T) (before after : List X) (d : DequeId) (v : Hand T) (items : List T) → length (map f before ++ d ∷ map f after) ≡ 1 →
      v.passes + (length before + length after) ≡ 16 → HeldAtOneMoment items v → IsLeft (get_or (map h before ++ v ∷ map h after) (length before) none).put (takes_of (map h before ++ v ∷ map h after)) items
  alone_left f h before after d v items one passes held =
      let lone : length before + length after ≡ 0 = omega (arith, one, length-append (map f before) (d ∷ map f after), length-map before f, length-map after f) in
      let no_before : before ≡ [] = nil_from_length before (omega arith) in
      let no_after : after ≡ [] = nil_from_length after (omega arith) in
      let taken : takes_of (v ∷ []) ≡ v.taken = append-nil v.taken in
      rw (no_before, no_after, taken) (whole items v (omega (arith, passes, lone)) held)
