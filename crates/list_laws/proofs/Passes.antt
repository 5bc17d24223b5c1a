-- A pass over a list that changes each element in its turn.
use Rattle.std.proofs.Common.{ℕ, ◌+◌, ◌<◌, ◌≤◌, ◌≡◌, ◌≢◌, ◌∙◌, List, length, get_or, set, map, refl, subst, arith, inl, inr, get_or-set_same, get_or-set_other}
use Rattle.std.specs.List.{AllZip}
use Rattle.std.proofs.lemmas.Bool.{cases_lt}
use Rattle.std.proofs.lemmas.List.{get_or_default}
use Rattle.list_laws.proofs.Matched.{AllZip-from_places, AllZip-images}

-- the elements before place i are changed by R, and the others are as they were
pub record IsPassed {X : Type 0} (R : X → X → Type 0) (given now : List X) (i : ℕ) : Type 0 where
  pub changed : (k : ℕ) (d : X) → k < i → k < length given → R (get_or given k d) (get_or now k d)
  pub left : (k : ℕ) (d : X) → i ≤ k → get_or now k d ≡ get_or given k d

pub IsPassed-none : {X : Type 0} (R : X → X → Type 0) (xs : List X) → IsPassed R xs xs 0
IsPassed-none R xs = record { changed = λ k d none inside. absurd (omega arith); left = λ k d le. refl }

-- one more element is changed
pub IsPassed-more : {X : Type 0} (R : X → X → Type 0) (given now : List X) (i : ℕ) (d v : X) → i < length now → length now ≡ length given → R (get_or now i d) v →
    IsPassed R given now i → IsPassed R given (set now i v) (i + 1)
IsPassed-more {X} R given now i d v inside size step passed = record {
  changed = λ k e below within.
      let other : k ≢ i → R (get_or given k e) (get_or (set now i v) k e) = λ apart. rw (get_or-set_other now i k v e apart) (passed.changed k e (omega (arith, apart)) within) in
      elim (cases_lt k i) [
        | inl before ↦ other (λ same. omega arith)
        | inr after ↦
            let at : i ≡ k = omega arith in
            let was : get_or now i d ≡ get_or given i e = get_or_default now i d e inside ∙ passed.left i e (omega arith) in
            subst (λ n. R (get_or given n e) (get_or (set now i v) n e)) at (rw (get_or-set_same now i v e inside, ← was) step)
      ];
  left = λ k e le. get_or-set_other now i k v e (λ same. omega arith) ∙ passed.left k e (omega arith);
}

-- and at the end all are
pub AllZip-from_pass : {X : Type 0} (R : X → X → Type 0) (given now : List X) (i : ℕ) → length now ≡ length given → length given ≤ i → IsPassed R given now i → AllZip R given now
AllZip-from_pass R given now i size all passed = AllZip-from_places R given now size (λ k d inside. passed.changed k d (omega arith) inside)

-- the same, of what the elements stand for
pub AllZip-from_pass_by : {X Y : Type 0} (S : Y → Y → Type 0) (f : X → Y) (given now : List X) (i : ℕ) → length now ≡ length given → length given ≤ i → IsPassed (λ x y. S (f x) (f y)) given now i →
    AllZip S (map f given) (map f now)
AllZip-from_pass_by S f given now i size all passed = AllZip-images S f given now (AllZip-from_pass (λ x y. S (f x) (f y)) given now i size all passed)
