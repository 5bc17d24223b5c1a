-- Each step of a deque keeps its rule.
use Rattle.std.proofs.Common.{◌≡◌, ◌≢◌, ⊎_elim, ℕ, zero, suc, ◌+◌, ◌-◌, ◌<◌, List, [], ◌∷◌, ◌++◌, set, sym, refl, ap, ◌∙◌, subst, append_assoc, arith, IsPermutation}
use Rattle.std.proofs.lemmas.List.Sorted.{IsPermutation-trans, IsPermutation-append_left}
use Rattle.std.proofs.lemmas.List.{append-nil}
use Rattle.std.proofs.lemmas.List.Sums.{sum_by_push}
use Rattle.list_laws.proofs.Changed.{set_there, sum_by-set_at, sum_by-else, flat_map-grown, flat_map-stays, flat_map-beside, flat_map-moved, flat_map-one}
use mathlib.Core.Option.{some, some-injective, some-ne-none}
use lib.ListN.{get_elem?}
use Rattle.crossbeam_deque.specs.Tasks.{Pushes, Takes, Finds, Forks, Merges}
use Rattle.crossbeam_deque.proofs.Lists.{at_set, at_snoc, set_else}
use Rattle.steal_pool.specs.declared.hand.Hand.{Hand}
use Rattle.steal_pool.specs.Rule.{ALL, hand, puts_of, takes_of, IsLeft, IsBalanced, HeldAtOneMoment, FirstAtOneMoment, EmptyAtOneMoment}
use Rattle.list_laws.proofs.Exchanges.{IsPermutation-same}

module _ {T : Type 0} where
  -- what holds of each view but one, after a write
  abbrev Others : (Hand T → ℕ → Type 0) → List (Hand T) → Type 0
  Others P views = (port : ℕ) (v : Hand T) → get_elem? views port ≡ some v → P v port

  others_set : (P : Hand T → ℕ → Type 0) (views : List (Hand T)) (port : ℕ) (w : Hand T) → P w port → Others P views → Others P (set views port w)
  others_set P views port w mine others j u e =
      ⊎_elim (λ (x : (j ≡ port) × (w ≡ u)). subst (λ (y : Hand T). P y j) x.1 (subst (P w) (sym x.0) mine))
      (λ (x : (j ≢ port) × (get_elem? views j ≡ some u)). others j u x.1) (at_set views port j w u e)

  others_push : (P : Hand T → ℕ → Type 0) (views : List (Hand T)) (w : Hand T) → ((port : ℕ) → P w port) → Others P views → Others P (views ++ w ∷ [])
  others_push P views w mine others j u e = ⊎_elim (λ x. others j u x) (λ (is : w ≡ u). subst (λ (y : Hand T). P y j) is (mine j)) (at_snoc views w u j e)

  -- what the rule says of each view
  abbrev passes : Hand T → ℕ
  passes v = v.passes

  abbrev OwnerPuts : Hand T → ℕ → Type 0
  OwnerPuts v port = port ≢ 0 → v.put ≡ []

  abbrev Spent : Hand T → ℕ → Type 0
  Spent v port = v.passes ≡ 0 → (v.put ≡ []) × (v.taken ≡ [])

  -- all that was put is what the owner put
  owner_puts : (views : List (Hand T)) (v : Hand T) → get_elem? views 0 ≡ some v → Others OwnerPuts views → puts_of views ≡ v.put
  owner_puts views v at owner = flat_map-one (λ (u : Hand T). u.put) views 0 v at (λ other u there differ. owner other u there differ)

  -- a new deque
  pub begins : IsBalanced {T = T} [] (hand ALL [] [] ∷ [])
  begins = record {
    all = refl;
    left = record { gone = []; order = refl; took = IsPermutation-same [] [] refl };
    owner = λ port v at differ. absurd (differ (only port v at).0);
    spent = λ port v at none. absurd (let k : ALL ≡ v.passes = ap (λ (y : Hand T). y.passes) (only port v at).1 in omega arith);
  }
    where
      only : (port : ℕ) (v : Hand T) → get_elem? (hand ALL [] [] ∷ []) port ≡ some v → (port ≡ 0) × (hand ALL [] [] ≡ v)
      only zero v e = (refl, some-injective (hand ALL [] []) v e)
      only (suc port) v e = absurd (some-ne-none v (sym e))

  -- the owner puts
  pub puts : (port : ℕ) (v : Hand T) (xs : List T) → port ≡ 0 → 0 < v.passes → Pushes IsBalanced port v xs (λ w. w ≡ hand v.passes (v.put ++ xs) v.taken)
  puts port v xs first some_pass items views h at =
      let w : Hand T = hand v.passes (v.put ++ xs) v.taken in
      let owner = others_set OwnerPuts views port w (λ differ. absurd (differ first)) h.owner in
      let was : puts_of views ≡ v.put = owner_puts views v (ap (λ (n : ℕ). get_elem? views n) (sym first) ∙ at) h.owner in
      let is : puts_of (set views port w) ≡ v.put ++ xs = owner_puts (set views port w) w (ap (λ (n : ℕ). get_elem? (set views port w) n) (sym first) ∙ set_there views port v w at) owner in
      let stays : takes_of (set views port w) ≡ takes_of views = flat_map-stays (λ (u : Hand T). u.taken) views port v w at refl in (
        w,
        record {
          all = omega (arith, sum_by-set_at passes views port v w at, h.all);
          left = record {
            gone = h.left.gone;
            order = is ∙ ap (λ (l : List T). l ++ xs) (sym was ∙ h.left.order) ∙ append_assoc h.left.gone items xs;
            took = subst (IsPermutation h.left.gone) (sym stays) h.left.took;
          };
          owner = owner;
          spent = others_set Spent views port w (λ none. absurd (omega arith)) h.spent;
        },
        refl,
      )

  -- the owner or a thief takes from the front
  pub takes : (port : ℕ) (v : Hand T) (most : ℕ) → 0 < v.passes → Takes IsBalanced port v most (λ xs w. (w ≡ hand v.passes v.put (v.taken ++ xs)) × FirstAtOneMoment v xs)
  takes port v most some_pass xs items views _ _ h at =
      let w : Hand T = hand v.passes v.put (v.taken ++ xs) in
      let grown : IsPermutation (takes_of views ++ xs) (takes_of (set views port w)) = flat_map-grown (λ (u : Hand T). u.taken) views port v w xs at refl in
      let stays : puts_of (set views port w) ≡ puts_of views = flat_map-stays (λ (u : Hand T). u.put) views port v w at refl in (
        w,
        record {
          all = omega (arith, sum_by-set_at passes views port v w at, h.all);
          left = record {
            gone = h.left.gone ++ xs;
            order = stays ∙ h.left.order ∙ sym (append_assoc h.left.gone xs items);
            took = IsPermutation-trans _ _ _ (IsPermutation-append_left xs _ _ h.left.took) grown;
          };
          owner = others_set OwnerPuts views port w (λ differ. h.owner port v at differ) h.owner;
          spent = others_set Spent views port w (λ none. absurd (omega arith)) h.spent;
        },
        (refl, (items, (port, views, h, at))),
      )

  -- who finds no task
  pub finds : (port : ℕ) (v : Hand T) → Finds IsBalanced port v (EmptyAtOneMoment v)
  finds port v views h at = (port, views, h, at)

  -- a pass is given away
  pub forks : (port : ℕ) (v : Hand T) → 1 < v.passes → Forks IsBalanced port v (hand (v.passes - 1) v.put v.taken) (hand 1 [] [])
  forks port v two items views h at =
      let l : Hand T = hand (v.passes - 1) v.put v.taken in
      let r : Hand T = hand 1 [] [] in
      let vs : List (Hand T) = set views port l in
      let p : puts_of (vs ++ r ∷ []) ≡ puts_of views = flat_map-beside (λ (u : Hand T). u.put) views port v l r at refl refl in
      let t : takes_of (vs ++ r ∷ []) ≡ takes_of views = flat_map-beside (λ (u : Hand T). u.taken) views port v l r at refl refl in
      record {
        all = omega (arith, sum_by-set_at passes views port v l at, sum_by_push passes vs r, h.all);
        left = record {
          gone = h.left.gone;
          order = p ∙ h.left.order;
          took = subst (IsPermutation h.left.gone) (sym t) h.left.took;
        };
        owner = others_push OwnerPuts vs r (λ j differ. refl) (others_set OwnerPuts views port l (λ differ. h.owner port v at differ) h.owner);
        spent = others_push Spent vs r (λ j none. absurd (omega arith)) (others_set Spent views port l (λ none. absurd (omega arith)) h.spent);
      }

  -- the owner takes a pass back
  pub merges : (port : ℕ) (v : Hand T) (other : ℕ) (u : Hand T) → port ≡ 0 → 0 < v.passes →
      Merges IsBalanced port v other u (hand (v.passes + u.passes) (v.put ++ u.put) (v.taken ++ u.taken)) (hand 0 [] [])
  merges port v other u first some_pass items views h at differ at' =
      let both : Hand T = hand (v.passes + u.passes) (v.put ++ u.put) (v.taken ++ u.taken) in
      let none : Hand T = hand 0 [] [] in
      let vs : List (Hand T) = set views port both in
      let was : get_elem? views other ≡ some u = sym (set_else views port other both differ) ∙ at' in
      let owner = others_set OwnerPuts vs other none (λ _. refl) (others_set OwnerPuts views port both (λ no. absurd (no first)) h.owner) in
      let there : get_elem? (set vs other none) port ≡ some both = set_else vs other port none (λ e. differ (sym e)) ∙ set_there views port v both at in
      let put : puts_of (set vs other none) ≡ puts_of views =
      owner_puts (set vs other none) both (ap (λ (n : ℕ). get_elem? (set vs other none) n) (sym first) ∙ there) owner
      ∙ ap (λ (l : List T). v.put ++ l) (h.owner other u was (λ e. differ (e ∙ sym first)))
      ∙ append-nil v.put
      ∙ sym (owner_puts views v (ap (λ (n : ℕ). get_elem? views n) (sym first) ∙ at) h.owner) in
      record {
        all = omega (arith, sum_by-set_at passes views port v both at, sum_by-set_at passes vs other u none at', h.all);
        left = record {
          gone = h.left.gone;
          order = put ∙ h.left.order;
          took = IsPermutation-trans _ _ _ h.left.took (flat_map-moved (λ (x : Hand T). x.taken) views port other v u both none differ (set_else views other port none (λ e. differ (sym e)) ∙ at) was refl refl);
        };
        owner = owner;
        spent = others_set Spent vs other none (λ _. (refl, refl)) (others_set Spent views port both (λ no. absurd (omega arith)) h.spent);
      }

  -- a view that stands for all passes has put and taken what all have
  pub whole : (items : List T) (v : Hand T) → v.passes ≡ ALL → HeldAtOneMoment items v → IsLeft v.put v.taken items
  whole items v all (port, views, h, at) =
      let none : (other : ℕ) (u : Hand T) → get_elem? views other ≡ some u → other ≢ port → (u.put ≡ []) × (u.taken ≡ []) =
      λ other u there differ. h.spent other u there (sum_by-else passes views port other v u at there differ (h.all ∙ sym all)) in
      let p : puts_of views ≡ v.put = flat_map-one (λ (u : Hand T). u.put) views port v at (λ other u there differ. (none other u there differ).0) in
      let t : takes_of views ≡ v.taken = flat_map-one (λ (u : Hand T). u.taken) views port v at (λ other u there differ. (none other u there differ).1) in
      record { gone = h.left.gone; order = sym p ∙ h.left.order; took = subst (IsPermutation h.left.gone) t h.left.took }
