-- Which fault of changes is named.
use Rattle.std.proofs.Common.{ℕ, ◌+◌, ◌<◌, ◌≤◌, ◌≡◌, ◌∙◌, List, [], ◌∷◌, ◌++◌, length, map, take, get_or, sym, ap, subst, arith, Contains, inl, inr, length-take-le, get_or-take}
use Rattle.std.specs.List.{AllZip}
use Rattle.std.specs.List.Sorted.{IsPermutation}
use Rattle.std.proofs.Math.ListN.{length-map}
use Rattle.std.proofs.lemmas.Bool.{cases_lt}
use Rattle.std.proofs.lemmas.List.{get_or-map, get_or_default, take_more, map-append}
use Rattle.std.proofs.lemmas.List.Elements.{length_all_zip, AllZip-get_or, All-from_get_or}
use Rattle.std.proofs.lemmas.List.Sorted.{IsPermutation-sym}
use Rattle.list_laws.proofs.FirstFaults.{named_first}
use Rattle.list_laws.proofs.Matched.{AllZip-flip}
use Rattle.period_rows.specs.declared.part.CellPart.{CellPart}
use Rattle.period_rows.specs.declared.changes.GivenChange.{GivenChange}
use Rattle.period_rows.specs.declared.fault.RowFault.{RowFault}
use Rattle.period_rows.specs.declared.fault.RowFault.TheVariants.{PeriodOutOfRange, OwnerOutOfRange, DoubleChange, BadRow, NoMemory}
use Rattle.period_rows.specs.Changes.{RowChange, change_of, key_of, change_at, IsSameKey, IsSameChange, AreChanges, HaveRows}
use Rattle.period_rows.specs.Faults.{IsNoPeriod, HasEarlier, HasRowFault, change_rank, IsFirstRowFault, IsRowRefusal, IsRightChange, IsFirstOfChange}

-- what an absent change has
abbrev nothing : RowChange
nothing = record { period = 0; owner = 0; row = [] }

-- the change at a place of two lists of the same changes
change_at-same : (given made : List RowChange) → AllZip IsSameChange given made → (i : ℕ) → i < length given → IsSameChange (change_at given i) (change_at made i)
unfolding change_at
change_at-same given made same i inside = AllZip-get_or IsSameChange given made i _ _ same inside

HasEarlier-same : (given made : List RowChange) → AllZip IsSameChange given made → (i : ℕ) → i < length given → HasEarlier given i → HasEarlier made i
HasEarlier-same given made same i inside (k, below, (period, owner)) =
    let here = change_at-same given made same i inside in
    let there = change_at-same given made same k (omega (arith, below, inside)) in
    (k, below, (there.0 ∙ period ∙ sym here.0, there.1 ∙ owner ∙ sym here.1))

IsSameChange-sym : (x y : RowChange) → IsSameChange x y → IsSameChange y x
IsSameChange-sym x y same = (sym same.0, sym same.1, IsPermutation-sym x.row y.row same.2)

-- the order of the entries in rows makes and mends no fault, where it makes no row wrong
module _ (Wrong : List CellPart → Type 0) (any_order : (xs ys : List CellPart) → IsPermutation xs ys → Wrong xs → Wrong ys) (last owners : ℕ) where
  pub HasRowFault-same : (given made : List RowChange) → AllZip IsSameChange given made → (fault : RowFault) → HasRowFault Wrong last owners given fault → HasRowFault Wrong last owners made fault
  HasRowFault-same given made same (PeriodOutOfRange i) has =
      (rw (← length_all_zip IsSameChange given made same) has.0, rw (change_at-same given made same i has.0).0 has.1)
  HasRowFault-same given made same (OwnerOutOfRange i) has =
      (rw (← length_all_zip IsSameChange given made same) has.0, rw (change_at-same given made same i has.0).1 has.1)
  HasRowFault-same given made same (DoubleChange i) has =
      (rw (← length_all_zip IsSameChange given made same) has.0, HasEarlier-same given made same i has.0 has.1)
  HasRowFault-same given made same (BadRow i) has =
      (rw (← length_all_zip IsSameChange given made same) has.0, any_order _ _ (change_at-same given made same i has.0).2 has.1)
  HasRowFault-same given made same NoMemory has = has

  pub IsRowRefusal-same : (given made : List RowChange) → AllZip IsSameChange given made → (fault : RowFault) → IsRowRefusal Wrong last owners made fault → IsRowRefusal Wrong last owners given fault
  IsRowRefusal-same given made same fault (inl none) = inl none
  IsRowRefusal-same given made same fault (inr first) = inr (record {
    there = HasRowFault-same made given (AllZip-flip IsSameChange IsSameChange IsSameChange-sym given made same) fault first.there;
    first = λ other has. first.first other (HasRowFault-same given made same other has);
  })

-- the keys of the first i changes
abbrev pub keys_before : List RowChange → ℕ → List (ℕ × ℕ)
keys_before changes i = map key_of (take i changes)

length-keys_before : (changes : List RowChange) (i : ℕ) → i ≤ length changes → length (keys_before changes i) ≡ i
length-keys_before changes i inside = length-map (take i changes) key_of ∙ length-take-le i changes inside

key_before : (changes : List RowChange) (i k : ℕ) (d : ℕ × ℕ) → i ≤ length changes → k < i → get_or (keys_before changes i) k d ≡ key_of (change_at changes k)
unfolding change_at
key_before changes i k d inside below =
    let within : k < length (take i changes) = omega (arith, length-take-le i changes inside) in
    get_or-map key_of (take i changes) k _ d within ∙ ap key_of (get_or-take i changes k _ below)

-- a key that stands among those before is that of an earlier change
earlier_from_key : (changes : List RowChange) (i : ℕ) → i ≤ length changes → Contains (keys_before changes i) (key_of (change_at changes i)) → HasEarlier changes i
earlier_from_key changes i inside (k, within, there) =
    let key = key_of (change_at changes i) in
    let below : k < i = omega (arith, within, length-keys_before changes i inside) in
    let same : key_of (change_at changes k) ≡ key = sym (key_before changes i k key inside below) ∙ there in
    (k, below, (ap (λ (key : ℕ × ℕ). key.0) same, ap (λ (key : ℕ × ℕ). key.1) same))

-- and one that doesn't is that of none
none_earlier : (changes : List RowChange) (i : ℕ) → i ≤ length changes → ¬ Contains (keys_before changes i) (key_of (change_at changes i)) → HasEarlier changes i → ⊥
none_earlier changes i inside none (k, below, (period, owner)) =
    let key = key_of (change_at changes i) in
    let within : k < length (keys_before changes i) = omega (arith, below, length-keys_before changes i inside) in
    let same : key_of (change_at changes k) ≡ key = λ j. (period j, owner j) in
    none (k, within, key_before changes i k key inside below ∙ same)

-- the key of the next change
keys_more : (changes : List RowChange) (i : ℕ) → i < length changes → keys_before changes (i + 1) ≡ keys_before changes i ++ key_of (change_at changes i) ∷ []
unfolding change_at
keys_more changes i inside = ap (map key_of) (take_more changes i _ inside) ∙ map-append key_of (take i changes) _

-- a period of no change is none of 1 to the last one
no_period : (last t : ℕ) → IsNoPeriod last t → (1 ≤ t) × (t ≤ last) → ⊥
no_period last t (inl none) period = omega (arith, none, period)
no_period last t (inr past) period = omega (arith, past, period)

module _ (Right : List CellPart → Type 0) (last owners : ℕ) (changes : List RowChange) where
  -- the first i changes are right, each behind those before it
  abbrev pub AreRight : ℕ → Type 0
  AreRight i = (k : ℕ) → k < i → IsRightChange Right last owners (keys_before changes k) (change_at changes k)

  pub changes_from_right : AreRight (length changes) → AreChanges last owners changes
  unfolding change_at
  changes_from_right right = record {
    within = All-from_get_or (λ change. (1 ≤ change.period) × (change.period ≤ last) × (change.owner < owners)) changes nothing (λ k inside.
        let at = right k inside in (at.period.0, at.period.1, at.owner));
    differ = λ i j d before inside same.
        let theirs : IsSameKey (change_at changes i) (change_at changes j) = rw (← get_or_default changes i d nothing (omega arith), ← get_or_default changes j d nothing inside) same in
        none_earlier changes j (omega arith) (right j inside).alone (i, before, theirs);
  }

  pub rows_from_right : AreRight (length changes) → HaveRows Right changes
  unfolding change_at
  rows_from_right right = λ k d inside. subst (λ (c : RowChange). Right c.row) (get_or_default changes k _ d inside) (right k inside).row

module _ (Right Wrong : List CellPart → Type 0) (apart : (row : List CellPart) → Right row → Wrong row → ⊥) (last owners : ℕ) (changes : List RowChange) where
  -- right changes have no fault
  pub no_row_fault : AreChanges last owners changes → HaveRows Right changes → (fault : RowFault) → HasRowFault Wrong last owners changes fault → ⊥
  unfolding change_at
  no_row_fault are right (PeriodOutOfRange i) has = let at = are.within i nothing has.0 in no_period last _ has.1 (at.0, at.1)
  no_row_fault are right (OwnerOutOfRange i) has = let at = are.within i nothing has.0 in omega (arith, has.1, at.2)
  no_row_fault are right (DoubleChange i) (inside, (k, below, same)) = are.differ k i nothing below inside same
  no_row_fault are right (BadRow i) has = apart _ (right i nothing has.0) has.1
  no_row_fault are right NoMemory has = has

  -- the fault of a change is the named one where all before it are right
  module _ (i : ℕ) (inside : i < length changes) (before : AreRight Right last owners changes i) where
    -- a change that isn't right stands no earlier
    from_here : (j : ℕ) → (IsRightChange Right last owners (keys_before changes j) (change_at changes j) → ⊥) → i ≤ j
    from_here j wrong = elim (cases_lt j i) [ inl earlier ↦ absurd (wrong (before j earlier)) | inr le ↦ le ]

    later : (other : RowFault) → HasRowFault Wrong last owners changes other → i ≤ (change_rank other).0
    later (PeriodOutOfRange j) has = from_here j (λ right. no_period last _ has.1 right.period)
    later (OwnerOutOfRange j) has = from_here j (λ right. omega (arith, has.1, right.owner))
    later (DoubleChange j) has = from_here j (λ right. none_earlier changes j (omega (arith, has.0)) right.alone has.1)
    later (BadRow j) has = from_here j (λ right. apart _ right.row has.1)
    later NoMemory has = absurd has

    -- and of this change the faults before it don't hold
    from_1 : (other : RowFault) → 1 ≤ (change_rank other).1
    from_1 (PeriodOutOfRange j) = omega arith
    from_1 (OwnerOutOfRange j) = omega arith
    from_1 (DoubleChange j) = omega arith
    from_1 (BadRow j) = omega arith
    from_1 NoMemory = omega arith

    module _ (period : (1 ≤ (change_at changes i).period) × ((change_at changes i).period ≤ last)) where
      from_2 : (other : RowFault) → HasRowFault Wrong last owners changes other → (change_rank other).0 ≡ i → 2 ≤ (change_rank other).1
      from_2 (PeriodOutOfRange j) has at = absurd (no_period last _ has.1 (rw at period))
      from_2 (OwnerOutOfRange j) has at = omega arith
      from_2 (DoubleChange j) has at = omega arith
      from_2 (BadRow j) has at = omega arith
      from_2 NoMemory has at = absurd has

      module _ (owner : (change_at changes i).owner < owners) where
        from_3 : (other : RowFault) → HasRowFault Wrong last owners changes other → (change_rank other).0 ≡ i → 3 ≤ (change_rank other).1
        from_3 (PeriodOutOfRange j) has at = absurd (no_period last _ has.1 (rw at period))
        from_3 (OwnerOutOfRange j) has at = let there : (change_at changes j).owner < owners = rw at owner in omega (arith, has.1, there)
        from_3 (DoubleChange j) has at = omega arith
        from_3 (BadRow j) has at = omega arith
        from_3 NoMemory has at = absurd has

        module _ (alone : ¬ Contains (keys_before changes i) (key_of (change_at changes i))) where
          from_4 : (other : RowFault) → HasRowFault Wrong last owners changes other → (change_rank other).0 ≡ i → 4 ≤ (change_rank other).1
          from_4 (PeriodOutOfRange j) has at = absurd (no_period last _ has.1 (rw at period))
          from_4 (OwnerOutOfRange j) has at = let there : (change_at changes j).owner < owners = rw at owner in omega (arith, has.1, there)
          from_4 (DoubleChange j) has at = let here : HasEarlier changes i = rw (← at) has.1 in absurd (none_earlier changes i (omega (arith, inside)) alone here)
          from_4 (BadRow j) has at = omega arith
          from_4 NoMemory has at = absurd has

    pub first_of_changes : (fault : RowFault) → IsFirstOfChange Wrong last owners (keys_before changes i) i (change_at changes i) fault → IsFirstRowFault Wrong last owners changes fault
    first_of_changes (PeriodOutOfRange j) named =
        rw named.0 (record { there = (inside, named.1); first = named_first (HasRowFault Wrong last owners changes) change_rank i 1 later (λ other has at. from_1 other) })
    first_of_changes (OwnerOutOfRange j) named =
        rw named.0 (record { there = (inside, named.2); first = named_first (HasRowFault Wrong last owners changes) change_rank i 2 later (from_2 named.1) })
    first_of_changes (DoubleChange j) named =
        rw named.0 (record {
          there = (inside, earlier_from_key changes i (omega (arith, inside)) named.3);
          first = named_first (HasRowFault Wrong last owners changes) change_rank i 3 later (from_3 named.1 named.2);
        })
    first_of_changes (BadRow j) named =
        rw named.0 (record { there = (inside, named.4); first = named_first (HasRowFault Wrong last owners changes) change_rank i 4 later (from_4 named.1 named.2 named.3) })
    first_of_changes NoMemory named = absurd named

-- the changes behind those of the code
module _ (changes : List GivenChange) (i : ℕ) (change : GivenChange) (inside : i < length changes) (read : change ≡ get_or changes i change) where
  change_at-map : change_at (map change_of changes) i ≡ change_of change
  unfolding change_at
  change_at-map = get_or-map change_of changes i change _ inside ∙ ap change_of (sym read)

  pub inside-map : i < length (map change_of changes)
  inside-map = omega (arith, inside, length-map changes change_of)

  -- what holds of all rows holds of this one
  pub row_of_all : (P : List CellPart → Type 0) → HaveRows P (map change_of changes) → P change.row.items
  row_of_all P all =
      subst (λ (c : RowChange). P c.row) (get_or-map change_of changes i change (change_of change) inside ∙ ap change_of (sym read)) (all i (change_of change) inside-map)

  module _ (keys : List (ℕ × ℕ)) (so_far : keys ≡ keys_before (map change_of changes) i) where
    pub named_here : (Wrong : List CellPart → Type 0) (last owners : ℕ) (fault : RowFault) → IsFirstOfChange Wrong last owners keys i (change_of change) fault →
        IsFirstOfChange Wrong last owners (keys_before (map change_of changes) i) i (change_at (map change_of changes) i) fault
    named_here Wrong last owners fault named = subst (λ (c : RowChange). IsFirstOfChange Wrong last owners (keys_before (map change_of changes) i) i c fault) (sym change_at-map)
        (subst (λ (ks : List (ℕ × ℕ)). IsFirstOfChange Wrong last owners ks i (change_of change) fault) so_far named)

    pub right_here : (Right : List CellPart → Type 0) (last owners : ℕ) → IsRightChange Right last owners keys (change_of change) →
        IsRightChange Right last owners (keys_before (map change_of changes) i) (change_at (map change_of changes) i)
    right_here Right last owners right = subst (λ (c : RowChange). IsRightChange Right last owners (keys_before (map change_of changes) i) c) (sym change_at-map)
        (subst (λ (ks : List (ℕ × ℕ)). IsRightChange Right last owners ks (change_of change)) so_far right)

    pub keys_with_here : keys ++ key_of (change_of change) ∷ [] ≡ keys_before (map change_of changes) (i + 1)
    keys_with_here =
        ap (λ (ks : List (ℕ × ℕ)). ks ++ key_of (change_of change) ∷ []) so_far
        ∙ ap (λ (c : RowChange). keys_before (map change_of changes) i ++ key_of c ∷ []) (sym change_at-map) ∙ sym (keys_more (map change_of changes) i inside-map)
