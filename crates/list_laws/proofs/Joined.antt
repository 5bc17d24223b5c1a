-- Lists joined over a range of numbers: what is found and counted there, and what holds of all elements and of each two.
use Rattle.std.proofs.Common.{◌≡◌, ◌≢◌, ℕ, zero, suc, ◌+◌, ◌<◌, ◌≤◌, Bool, true, false, cond, List, [], ◌∷◌, get_or, Option, Some, None, refl, ap, ◌∙◌, arith, inl, inr, All, AllPairs, sym, subst}
use Rattle.std.specs.Prelude.{count_by}
use Rattle.std.specs.List.{find, flat_map, range_with_len}
use Rattle.std.specs.Option.{option_or}
use Rattle.std.proofs.lemmas.Bool.{cases_eq, cases_Bool}
use Rattle.std.proofs.lemmas.List.Folds.{find-append}
use Rattle.std.proofs.lemmas.List.Elements.{All-nil, All-cons, All-append}
use Rattle.std.proofs.lemmas.List.Sums.{sum_by-append, sum_by-cons}
use Rattle.list_laws.proofs.Pairs.{AllPairs-nil, AllPairs-cons, AllPairs-append}

-- a first answer, or none
pub or_none : {Y : Type 0} (o : Option Y) → option_or o None ≡ o
or_none None = refl
or_none (Some y) = refl

module _ {Y : Type 0} (g : ℕ → List Y) where
  -- where nothing is found for any number, and for any but one
  pub find_none : (P : Y → Bool) (n a : ℕ) → ((k : ℕ) → a ≤ k → k < a + n → find P (g k) ≡ None) → find P (flat_map g (range_with_len a n)) ≡ None
  find_none P zero a none = refl
  find_none P (suc n) a none =
      let here = none a (omega arith) (omega arith) in
      let rest = find_none P n (a + 1) (λ k low high. none k (omega (arith, low)) (omega (arith, high))) in
      find-append P (g a) (flat_map g (range_with_len (a + 1) n)) ∙ rw (here, rest) refl

  pub find_at : (P : Y → Bool) (n a t : ℕ) → a ≤ t → t < a + n → ((k : ℕ) → k ≢ t → find P (g k) ≡ None) → find P (flat_map g (range_with_len a n)) ≡ find P (g t)
  find_at P zero a t low high none = absurd (omega (arith, low, high))
  find_at P (suc n) a t low high none =
      find-append P (g a) (flat_map g (range_with_len (a + 1) n)) ∙ elim (cases_eq a t) [
        | inl same ↦
            let rest = find_none P n (a + 1) (λ k more less. none k (λ e. omega (arith, more, same, e))) in
            rw rest (or_none (find P (g a)) ∙ ap (λ (k : ℕ). find P (g k)) same)
        | inr apart ↦
            let here = none a apart in
            rw here (find_at P n (a + 1) t (omega (arith, low, apart)) (omega (arith, high)) none)
      ]

  -- where none is counted for any number, and for any but one
  pub count_none : (P : Y → Bool) (n a : ℕ) → ((k : ℕ) → a ≤ k → k < a + n → count_by P (g k) ≡ 0) → count_by P (flat_map g (range_with_len a n)) ≡ 0
  count_none P zero a none = refl
  count_none P (suc n) a none =
      let both = sum_by-append (λ y. cond (P y) 1 0) (g a) (flat_map g (range_with_len (a + 1) n)) in
      omega (arith, both, none a (omega arith) (omega arith), count_none P n (a + 1) (λ k low high. none k (omega (arith, low)) (omega (arith, high))))

  pub count_at : (P : Y → Bool) (n a t : ℕ) → ((k : ℕ) → k ≢ t → count_by P (g k) ≡ 0) → count_by P (g t) ≤ 1 → count_by P (flat_map g (range_with_len a n)) ≤ 1
  count_at P zero a t none most = omega arith
  count_at P (suc n) a t none most =
      let both = sum_by-append (λ y. cond (P y) 1 0) (g a) (flat_map g (range_with_len (a + 1) n)) in
      elim (cases_eq a t) [
        | inl same ↦
            let here : count_by P (g a) ≤ 1 = subst (λ (k : ℕ). count_by P (g k) ≤ 1) (sym same) most in
            omega (arith, both, here, count_none P n (a + 1) (λ k more less. none k (λ e. omega (arith, more, same, e))))
        | inr apart ↦ omega (arith, both, none a apart, count_at P n (a + 1) t none most)
      ]

  pub all_joined : (Q : Y → Type 0) (n a : ℕ) → ((k : ℕ) → a ≤ k → k < a + n → All Q (g k)) → All Q (flat_map g (range_with_len a n))
  all_joined Q zero a each = All-nil Q
  all_joined Q (suc n) a each =
      All-append Q (g a) (flat_map g (range_with_len (a + 1) n)) (each a (omega arith) (omega arith)) (all_joined Q n (a + 1) (λ k low high. each k (omega (arith, low)) (omega (arith, high))))

  pub pairs_joined : (S : Y → Y → Type 0) (n a : ℕ) → ((k : ℕ) → AllPairs S (g k)) → ((k m : ℕ) → k < m → All (λ x. All (S x) (g m)) (g k)) → AllPairs S (flat_map g (range_with_len a n))
  pairs_joined S zero a own across = AllPairs-nil S
  pairs_joined S (suc n) a own across =
      AllPairs-append S (g a) (flat_map g (range_with_len (a + 1) n)) (own a) (pairs_joined S n (a + 1) own across)
      (λ k d inside. all_joined (S (get_or (g a) k d)) n (a + 1) (λ m low high. across a m (omega (arith, low)) k d inside))

-- One element, or none.

module _ {Y : Type 0} (y : Y) where
  pub find_hit : (P : Y → Bool) (none : Bool) → P y ≡ true → find P (cond none [] (y ∷ [])) ≡ cond none None (Some y)
  find_hit P true is = refl
  find_hit P false is = rw is refl

  pub find_miss : (P : Y → Bool) (none : Bool) → P y ≡ false → find P (cond none [] (y ∷ [])) ≡ None
  find_miss P true is = refl
  find_miss P false is = rw is refl

  pub count_miss : (P : Y → Bool) (none : Bool) → P y ≡ false → count_by P (cond none [] (y ∷ [])) ≡ 0
  count_miss P true is = refl
  count_miss P false is = sum_by-cons (λ x. cond (P x) 1 0) y [] ∙ rw is refl

  pub count_one : (P : Y → Bool) (none : Bool) → count_by P (cond none [] (y ∷ [])) ≤ 1
  count_one P true = omega arith
  count_one P false =
      let step = sum_by-cons (λ x. cond (P x) 1 0) y [] in
      elim (cases_Bool (P y)) [
        | inl is ↦ let one : ◌≡◌ {A = ℕ} (cond (P y) 1 0) 1 = ap (λ (b : Bool). cond b 1 0) is in omega (arith, step, one)
        | inr isnt ↦ let none : ◌≡◌ {A = ℕ} (cond (P y) 1 0) 0 = ap (λ (b : Bool). cond b 1 0) isnt in omega (arith, step, none)
      ]

  pub all_one : (Q : Y → Type 0) (none : Bool) → Q y → All Q (cond none [] (y ∷ []))
  all_one Q true is = All-nil Q
  all_one Q false is = All-cons Q y [] is (All-nil Q)

  pub pairs_one : (S : Y → Y → Type 0) (none : Bool) → AllPairs S (cond none [] (y ∷ []))
  pairs_one S true = AllPairs-nil S
  pairs_one S false = AllPairs-cons S y [] (All-nil (S y)) (AllPairs-nil S)
