-- Beliefs along a prefix, one look after the other.
use Rattle.std.proofs.Common.{ℕ, suc, ◌+◌, ◌-◌, ◌<◌, ◌≤◌, ◌≡◌, ◌==◌, true, false, List, [], ◌∷◌, ◌++◌, Option, Some, None, map, max, min, length, take, drop, slice_index, inl, inr, IsTrue, true≢false, All, refl, sym, ap, subst, ◌∙◌, arith, length-append, append_assoc, length-drop}
use Rattle.std.proofs.lemmas.Bool.{cases_eq, cases_lt, eq-eqb, ne_eqb}
use Rattle.std.proofs.lemmas.List.{take_more, take_all, take-take, map-append, length-take-le}
use Rattle.std.proofs.lemmas.List.Sums.{common_prefix_len-le, common_prefix_len-drop_yes, common_prefix_len-drop_no}
use Rattle.std.proofs.Math.Nat.{max-eq_right}
use Rattle.search_model.specs.Problem.{Problem}
use Rattle.belief_update.specs.Masses.{looks_to}
use Rattle.belief_update.specs.Belief.{BeliefState, IsBelief, is_looked, awaiting}
use Rattle.belief_update.specs.Trails.{IsPast, IsAfter, IsAhead, AreRows, HaveAllCells, row_at, common_of}
use Rattle.belief_update.proofs.Looks.{looks_to-look, looks_to-drift}
use Rattle.belief_update.proofs.BeliefSteps.{is_looked-last}

-- the first n + 1 elements of a list
pub front_more : (q : List ℕ) (n : ℕ) → n < length q → take (n + 1) q ≡ take n q ++ slice_index q n ∷ []
front_more q n here = take_more q n 0 here

-- the looks of a list, one more
pub looks_more : (looks : List (Option ℕ)) (q : List ℕ) (n : ℕ) → n < length q → looks ++ map Some (take n q) ++ Some (slice_index q n) ∷ [] ≡ looks ++ map Some (take (n + 1) q)
looks_more looks q n here =
    append_assoc looks (map Some (take n q)) (Some (slice_index q n) ∷ [])
    ∙ ap (λ (made : List (Option ℕ)). looks ++ made) (sym (map-append Some (take n q) (slice_index q n ∷ [])) ∙ ap (map Some) (sym (front_more q n here)))

-- lists that have a front in common have each shorter one in common
pub shorter_front : (q r : List ℕ) (i n : ℕ) → i ≤ n → take n q ≡ take n r → take i q ≡ take i r
shorter_front q r i n le same = sym (take-take i n q le) ∙ ap (take i) same ∙ take-take i n r le

-- what two lists have in common is the same front of both
pub common_front : (q r : List ℕ) → take (common_of q r) q ≡ take (common_of q r) r
common_front [] r = refl
common_front (a ∷ q) [] = refl
common_front (a ∷ q) (b ∷ r) = elim (cases_eq a b) [
  | inl same ↦
      let one : common_of (a ∷ q) (b ∷ r) ≡ 1 + common_of q r = common_prefix_len-drop_yes (λ a b. a == b) (a ∷ q) (b ∷ r) 0 0 0 (omega arith) (omega arith) (eq-eqb a b same) in
      let more : common_of (a ∷ q) (b ∷ r) ≡ suc (common_of q r) = omega (arith, one) in
      rw more (rw same (ap (λ (xs : List ℕ). b ∷ xs) (common_front q r)))
  | inr apart ↦
      let none : common_of (a ∷ q) (b ∷ r) ≡ 0 = common_prefix_len-drop_no (λ a b. a == b) (a ∷ q) (b ∷ r) 0 0 0 (omega arith) (omega arith) (ne_eqb a b apart) in
      rw none refl
]

-- at the end of the shorter list nothing more is in common
pub common_none : (q r : List ℕ) (n : ℕ) → min (length q) (length r) ≤ n → common_of (drop n q) (drop n r) ≡ 0
common_none q r n past =
    let le = common_prefix_len-le (λ a b. a == b) (drop n q) (drop n r) in
    omega (arith, le.0, le.1, length-drop n q, length-drop n r, past)

-- the period after the looks of a prefix isn't looked at
pub looks_ahead : (q : List ℕ) → looks_to (length q + 1) q ≡ looks_to (length q) q ++ None ∷ []
looks_ahead q = looks_to-drift (length q) q (omega arith)

module _ (p : Problem) (q : List ℕ) (n : ℕ) (here : n < length q) (b : BeliefState) where
  long : length (take n q) ≡ n
  long = length-take-le n q (omega (arith, here))

  -- ahead of a look its period isn't looked at
  pub unlooked_ahead : IsAhead p (take n q) b → IsBelief p (looks_to (length (take n q)) (take n q) ++ None ∷ []) b
  unlooked_ahead ahead = rw looks_ahead at ahead

  -- with that look it is the belief after it
  pub after_look : IsBelief p (looks_to (length (take n q)) (take n q) ++ Some (slice_index q n) ∷ []) b → IsAfter p (take (n + 1) q) b
  after_look belief =
      let period : max 1 (length (take n q ++ slice_index q n ∷ [])) ≡ length (take n q) + 1 = max-eq_right (omega (arith, length-append (take n q) (slice_index q n ∷ []))) ∙ length-append (take n q) (slice_index q n ∷ []) in
      rw (front_more q n here, period, looks_to-look) belief

-- the looks up to the last one of a prefix
looks_last : (q : List ℕ) (n : ℕ) → length q ≡ n + 1 → looks_to (length q) q ≡ looks_to (length (take n q)) (take n q) ++ Some (slice_index q n) ∷ []
looks_last q n whole =
    let parts : take n q ++ slice_index q n ∷ [] ≡ q = sym (front_more q n (omega (arith, whole))) ∙ take_all (n + 1) q (omega (arith, whole)) in
    let period : length q ≡ length (take n q) + 1 = omega (arith, whole, length-take-le n q (omega (arith, whole))) in
    ap (λ (t : ℕ). looks_to t q) period ∙ ap (λ (r : List ℕ). looks_to (length (take n q) + 1) r) (sym parts) ∙ looks_to-look (take n q) (slice_index q n)

-- the belief that is ready for the next look, by one after the prefix, in the period of its last look or in the next
pub ready_ahead : (p : Problem) (q : List ℕ) (before b : BeliefState) → IsPast p q before → before.period ≤ length q + 1 →
    ((looks : List (Option ℕ)) → IsBelief p looks before → IsBelief p (awaiting before looks) b) → IsAhead p q b
ready_ahead p q before b past near ready = elim (cases_lt (length q) before.period) [
  | inl later ↦
      let period : before.period ≡ length q + 1 = omega (arith, later, near) in
      let belief : IsBelief p (looks_to (length q) q ++ None ∷ []) before = subst (λ (looks : List (Option ℕ)). IsBelief p looks before) (looks_ahead q) (subst (λ (t : ℕ). IsBelief p (looks_to t q) before) period past.belief) in
      let none : before.looked ≡ false = belief.looked ∙ is_looked-last (looks_to (length q) q) None in
      let ahead = rw none at (ready (looks_to (length q) q ++ None ∷ []) belief) in
      rw looks_ahead ahead
  | inr here ↦
      let period : before.period ≡ length q = omega (arith, here, past.late) in
      let n : ℕ = length q - 1 in
      let whole : length q ≡ n + 1 = omega (arith, period, past.belief.first) in
      let front = looks_to (length (take n q)) (take n q) in
      let look : Option ℕ = Some (slice_index q n) in
      let belief : IsBelief p (looks_to (length q) q) before = subst (λ (t : ℕ). IsBelief p (looks_to t q) before) period past.belief in
      let looked : before.looked ≡ true = belief.looked ∙ ap is_looked (looks_last q n whole) ∙ is_looked-last front look in
      let ahead = rw looked at (ready (looks_to (length q) q) belief) in
      rw looks_ahead ahead
]

-- the beliefs of a prefix up to some looks are those of any prefix that begins with them
pub rows_shared : (p : Problem) (q r : List ℕ) (n m : ℕ) (rows ahead : List BeliefState) → n ≤ m → take n q ≡ take n r → AreRows p q m rows ahead → AreRows p r n rows ahead
rows_shared p q r n m rows ahead le same are = record {
  size = are.size;
  ahead_size = are.ahead_size;
  cells = are.cells;
  ahead_cells = are.ahead_cells;
  after = λ k few. rw (← shorter_front q r k n few same) (are.after k (omega (arith, few, le)));
  before = λ k few more. rw (← shorter_front q r k n few same) (are.before k (omega (arith, few, le)) more);
}

-- a belief whose own period is looked at isn't ahead of the next look yet
pub more_behind : (p : Problem) (q : List ℕ) (b : BeliefState) → IsPast p q b → b.period ≤ length q + 1 → length q < p.horizon → IsTrue b.looked → b.period < p.horizon
more_behind p q b past near short looked = elim (cases_lt (length q) b.period) [
  | inl later ↦
      let period : b.period ≡ length q + 1 = omega (arith, later, near) in
      let belief : IsBelief p (looks_to (length q) q ++ None ∷ []) b = subst (λ (looks : List (Option ℕ)). IsBelief p looks b) (looks_ahead q) (subst (λ (t : ℕ). IsBelief p (looks_to t q) b) period past.belief) in
      absurd (true≢false (sym looked ∙ belief.looked ∙ is_looked-last (looks_to (length q) q) None))
  | inr here ↦ omega (arith, here, short)
]

-- beliefs before a look are those along the empty prefix
pub rows_first : (p : Problem) (rows ahead : List BeliefState) → length rows ≡ p.horizon + 1 → length ahead ≡ p.horizon → All (IsBelief p (None ∷ [])) rows → All (IsBelief p (None ∷ [])) ahead → AreRows p [] 0 rows ahead
rows_first p rows ahead size ahead_size each ahead_each = record {
  size = size;
  ahead_size = ahead_size;
  cells = λ k d here. (each k d here).cells;
  ahead_cells = λ k d here. (ahead_each k d here).cells;
  after = λ k few. let zero : k ≡ 0 = omega (arith, few) in rw zero (each 0 (row_at [] 0) (omega (arith, size)));
  before = λ k few below. let zero : k ≡ 0 = omega (arith, few) in rw zero (ahead_each 0 (row_at [] 0) (omega (arith, few, below, ahead_size)));
}

-- the beliefs up to the next look, by those up to the one before it
pub rows_more : (p : Problem) (q : List ℕ) (i : ℕ) (rows ahead new new_ahead : List BeliefState) → AreRows p q i rows ahead → length new ≡ length rows → length new_ahead ≡ length ahead →
    HaveAllCells p new → HaveAllCells p new_ahead → IsAfter p (take (i + 1) q) (row_at new (i + 1)) → (i + 1 < p.horizon → IsAhead p (take (i + 1) q) (row_at new_ahead (i + 1))) →
    ((k : ℕ) → k ≤ i → row_at new k ≡ row_at rows k) → ((k : ℕ) → k < i + 1 → row_at new_ahead k ≡ row_at ahead k) → AreRows p q (i + 1) new new_ahead
rows_more p q i rows ahead new new_ahead are size ahead_size cells ahead_cells after before same same_ahead = record {
  size = size ∙ are.size;
  ahead_size = ahead_size ∙ are.ahead_size;
  cells = cells;
  ahead_cells = ahead_cells;
  after = λ k few. elim (cases_lt i k) [
    | inl past ↦ let last : k ≡ i + 1 = omega (arith, past, few) in rw last after
    | inr early ↦ rw (same k early) (are.after k early)
  ];
  before = λ k few below. elim (cases_lt i k) [
    | inl past ↦ let last : k ≡ i + 1 = omega (arith, past, few) in rw last (before (omega (arith, last, below)))
    | inr early ↦ rw (same_ahead k (omega (arith, early))) (are.before k early below)
  ];
}
