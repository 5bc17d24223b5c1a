-- The rows of single periods that differ from those of period 1, and the table that they make.
use Rattle.std.proofs.Common.{◌≡◌, ◌≢◌, ℕ, suc, ◌+◌, ◌-◌, ◌<◌, ◌≤◌, Bool, true, false, cond, List, [], ◌++◌, Option, Some, None, refl, sym, ap, ◌∙◌, arith, inl, inr, All, AllPairs, ◌⊎◌, max, map, append_assoc}
use Rattle.std.specs.Prelude.{◌==◌}
use Rattle.std.specs.List.{find, flat_map, range_with_len}
use Rattle.std.specs.Option.{option_map_or}
use Rattle.std.proofs.lemmas.Bool.{cases_lt, eq-eqb, ne_eqb, and_from, and_left, and_right}
use Rattle.std.proofs.lemmas.List.{append-nil}
use Rattle.list_laws.proofs.Changed.{flat_map-push}
use Rattle.list_laws.proofs.Ranges.{range_more, range_with_len-suc}
use Rattle.period_rows.specs.declared.part.CellPart.{CellPart}
use Rattle.period_rows.specs.Changes.{is_for, IsSameKey}
use Rattle.searcher_maps.specs.Differing.{change_to, differing_at, differing_in, differing}
use Rattle.list_laws.proofs.Joined.{find_none, find_at, all_joined, pairs_joined, find_hit, find_miss, all_one, pairs_one}

-- a change of a row is for its period and its owner alone
pub own : (t o : ℕ) (row : List CellPart) → is_for t o (change_to t o row) ≡ true
own t o row = and_from (t == t) (o == o) (eq-eqb t t refl) (eq-eqb o o refl)

pub other : (t o u p : ℕ) (row : List CellPart) → (u ≢ t) ⊎ (p ≢ o) → is_for t o (change_to u p row) ≡ false
other t o u p row (inl apart) = and_left (u == t) (p == o) (ne_eqb u t apart)
other t o u p row (inr apart) = and_right (u == t) (p == o) (ne_eqb p o apart)

pub apart : (t o u p : ℕ) (row other_row : List CellPart) → (t ≢ u) ⊎ (o ≢ p) → ¬ IsSameKey (change_to t o row) (change_to u p other_row)
apart t o u p row other_row (inl periods) same = periods same.0
apart t o u p row other_row (inr owners) same = owners same.1

module _ {R C : Type 0} (same : R → R → Bool) (change : ℕ → ℕ → R → C) (row : ℕ → ℕ → R) where
  -- no owner, and one more
  pub in_none : (t : ℕ) → differing_in same change row t 0 ≡ []
  unfolding differing_in
  in_none t = refl

  pub in_more : (t a : ℕ) → differing_in same change row t (a + 1) ≡ differing_in same change row t a ++ differing_at same change row t a
  unfolding differing_in
  in_more t a = ap (flat_map (differing_at same change row t)) (range_more a) ∙ flat_map-push (differing_at same change row t) (range_with_len 0 a) a

  -- no period, and one more
  pub differing-none : (owners : ℕ) → differing same change row owners 2 ≡ []
  unfolding differing
  differing-none owners = refl

  pub differing-same : (owners m n : ℕ) → m - 2 ≡ n - 2 → differing same change row owners m ≡ differing same change row owners n
  unfolding differing
  differing-same owners m n as_many = ap (λ k. flat_map (λ t. differing_in same change row t owners) (range_with_len 2 k)) as_many

  pub differing-more : (owners t : ℕ) → 2 ≤ t → differing same change row owners (t + 1) ≡ differing same change row owners t ++ differing_in same change row t owners
  unfolding differing
  differing-more owners t late =
      let g : ℕ → List C = λ u. differing_in same change row u owners in
      let more : t + 1 - 2 ≡ suc (t - 2) = omega arith in
      let last : 2 + (t - 2) ≡ t = omega arith in
      ap (λ n. flat_map g (range_with_len 2 n)) more ∙ ap (flat_map g) (range_with_len-suc 2 (t - 2)) ∙ flat_map-push g (range_with_len 2 (t - 2)) (2 + (t - 2)) ∙ ap (λ n. flat_map g (range_with_len 2 (t - 2)) ++ g n) last

  -- what holds of each change
  pub all_changes : (Q : C → Type 0) (owners end : ℕ) → ((t a : ℕ) → 2 ≤ t → t < end → a < owners → Q (change t a (row t a))) → All Q (differing same change row owners end)
  unfolding differing differing_in
  all_changes Q owners end each =
      all_joined (λ t. differing_in same change row t owners) Q (end - 2) 2 (λ t low high.
      all_joined (differing_at same change row t) Q owners 0 (λ a from inside. all_one (change t a (row t a)) Q (same (row t a) (row 1 a)) (each t a low (omega (arith, low, high)) (omega (arith, inside)))))

  -- and of any two
  pub pairs_of_changes : (S : C → C → Type 0) (owners end : ℕ) → ((t a u b : ℕ) → (t ≢ u) ⊎ (a ≢ b) → S (change t a (row t a)) (change u b (row u b))) → AllPairs S (differing same change row owners end)
  unfolding differing differing_in
  pairs_of_changes S owners end apart =
      pairs_joined (λ t. differing_in same change row t owners) S (end - 2) 2
      (λ t. pairs_joined (differing_at same change row t) S owners 0 (λ a. pairs_one (change t a (row t a)) S (same (row t a) (row 1 a)))
      (λ a b less. all_one (change t a (row t a)) (λ x. All (S x) (differing_at same change row t b)) (same (row t a) (row 1 a))
      (all_one (change t b (row t b)) (S (change t a (row t a))) (same (row t b) (row 1 b)) (apart t a t b (inr (λ e. omega (arith, e, less)))))))
      (λ t u less. all_joined (differing_at same change row t) (λ x. All (S x) (differing_in same change row u owners)) owners 0 (λ a low high.
      all_one (change t a (row t a)) (λ x. All (S x) (differing_in same change row u owners)) (same (row t a) (row 1 a))
      (all_joined (differing_at same change row u) (S (change t a (row t a))) owners 0 (λ b from inside.
      all_one (change u b (row u b)) (S (change t a (row t a))) (same (row u b) (row 1 b)) (apart t a u b (inl (λ e. omega (arith, e, less))))))))

  module _ (is_for : ℕ → ℕ → C → Bool) (row_in : C → R) (sound : (r s : R) → same r s ≡ true → r ≡ s) (own : (t a : ℕ) (r : R) → is_for t a (change t a r) ≡ true) (other : (t a u b : ℕ) (r : R) → (u ≢ t) ⊎ (b ≢ a) → is_for t a (change u b r) ≡ false) (has : (t a : ℕ) (r : R) → row_in (change t a r) ≡ r) where
    none_of_period : (owners t a u : ℕ) → u ≢ t → find (is_for t a) (differing_in same change row u owners) ≡ None
    unfolding differing_in
    none_of_period owners t a u apart = find_none (differing_at same change row u) (is_for t a) owners 0 (λ b low high. find_miss (change u b (row u b)) (is_for t a) (same (row u b) (row 1 b)) (other t a u b (row u b) (inl apart)))

    found_in_period : (owners t a : ℕ) → a < owners → find (is_for t a) (differing_in same change row t owners) ≡ cond (same (row t a) (row 1 a)) None (Some (change t a (row t a)))
    unfolding differing_in
    found_in_period owners t a inside =
        find_at (differing_at same change row t) (is_for t a) owners 0 a (omega arith) (omega (arith, inside)) (λ b apart. find_miss (change t b (row t b)) (is_for t a) (same (row t b) (row 1 b)) (other t a t b (row t b) (inr apart)))
        ∙ find_hit (change t a (row t a)) (is_for t a) (same (row t a) (row 1 a)) (own t a (row t a))

    found_later : (owners end t a : ℕ) → 2 ≤ t → t < end → a < owners → find (is_for t a) (differing same change row owners end) ≡ cond (same (row t a) (row 1 a)) None (Some (change t a (row t a)))
    unfolding differing
    found_later owners end t a low high inside =
        find_at (λ u. differing_in same change row u owners) (is_for t a) (end - 2) 2 t low (omega (arith, low, high)) (λ u apart. none_of_period owners t a u apart)
        ∙ found_in_period owners t a inside

    none_first : (owners end a : ℕ) → find (is_for 1 a) (differing same change row owners end) ≡ None
    unfolding differing
    none_first owners end a = find_none (λ u. differing_in same change row u owners) (is_for 1 a) (end - 2) 2 (λ u low high. none_of_period owners 1 a u (λ e. omega (arith, low, e)))

    told : (t a : ℕ) (is : Bool) → same (row t a) (row 1 a) ≡ is → option_map_or row_in (cond is None (Some (change t a (row t a)))) (row 1 a) ≡ row t a
    told t a true is = sym (sound (row t a) (row 1 a) is)
    told t a false isnt = has t a (row t a)

    -- the row in force in a period before the end, and in period 1
    pub in_force : (owners end t a : ℕ) → 1 ≤ t → t < max 2 end → a < owners → option_map_or row_in (find (is_for t a) (differing same change row owners end)) (row 1 a) ≡ row t a
    in_force owners end t a some before inside =
        elim (cases_lt t 2) [
          | inl early ↦
              let first : t ≡ 1 = omega (arith, some, early) in
              rw first (ap (λ (o : Option C). option_map_or row_in o (row 1 a)) (none_first owners end a))
          | inr late ↦
              let within : t < end = omega (arith, before, late) in
              ap (λ (o : Option C). option_map_or row_in o (row 1 a)) (found_later owners end t a late within inside) ∙ told t a (same (row t a) (row 1 a)) refl
        ]

-- Steps of loops that add to a list.
module _ {X R C : Type 0} (view : X → C) (same : R → R → Bool) (change : ℕ → ℕ → R → C) (row : ℕ → ℕ → R) where
  pub no_owner : (xs : List X) (t : ℕ) → map view xs ≡ map view xs ++ differing_in same change row t 0
  no_owner xs t = sym (append-nil (map view xs)) ∙ ap (λ (l : List C). map view xs ++ l) (sym (in_none same change row t))

  pub owner_more : (before now next : List X) (t a : ℕ) → map view now ≡ map view before ++ differing_in same change row t a → map view next ≡ map view now ++ differing_at same change row t a →
      map view next ≡ map view before ++ differing_in same change row t (a + 1)
  owner_more before now next t a so_far more =
      more ∙ ap (λ (l : List C). l ++ differing_at same change row t a) so_far ∙ append_assoc (map view before) (differing_in same change row t a) (differing_at same change row t a)
      ∙ ap (λ (l : List C). map view before ++ l) (sym (in_more same change row t a))

  pub period_more : (now next : List X) (owners t : ℕ) → 2 ≤ t → map view now ≡ differing same change row owners t → map view next ≡ map view now ++ differing_in same change row t owners →
      map view next ≡ differing same change row owners (t + 1)
  period_more now next owners t late so_far more =
      more ∙ ap (λ (l : List C). l ++ differing_in same change row t owners) so_far ∙ sym (differing-more same change row owners t late)
