-- Each step of the ticket word keeps its rule.
use Rattle.std.proofs.Common.{◌≡◌, ℕ, zero, suc, ◌+◌, ◌-◌, ◌%◌, ◌^◌, ◌<◌, ◌≤◌, List, [], ◌∷◌, ◌++◌, set, sym, refl, ap, ◌∙◌, subst, arith, All, IsPermutation, slice_index, cond, leb, length, length-append}
use Rattle.std.specs.List.{flat_map, range_with_len, sum_by}
use Rattle.std.proofs.Math.Nat.{mod-eq_of_lt}
use Rattle.std.proofs.lemmas.List.Elements.{All-head, All-tail, All-nil, All-cons, All-set, All-push}
use Rattle.std.proofs.lemmas.List.Sums.{sum_by_push, sum_by-cons}
use Rattle.std.proofs.lemmas.List.FromFn.{length-range_with_len}
use Rattle.std.proofs.lemmas.List.Sorted.{IsPermutation-refl, IsPermutation-sym, IsPermutation-trans, IsPermutation-append_left, sum_by-IsPermutation, All-permutation, length_permutation}
use mathlib.Core.Option.{some, some-injective, some-ne-none}
use lib.ListN.{get_elem?}
use Rattle.atomic_table.specs.Table.{State, Me, Allows, Splits, Joins, keeps, opening}
use Rattle.atomic_table.proofs.Lists.{set_else, set_again}
use Rattle.node_tickets.specs.declared.hand.Hand.{Hand}
use Rattle.node_tickets.specs.Rule.{hand, high_of, IsCounted}
use Rattle.node_tickets.specs.Seats.{ALL_SEATS, MOST_NUMBERS}
use Rattle.list_laws.proofs.Changed.{All-at, All-flat_map_at, sum_by-set_at, sum_by-else, flat_map-grown, flat_map-beside, flat_map-moved, flat_map-one}
use Rattle.list_laws.proofs.Exchanges.{IsPermutation-same}
use Rattle.node_tickets.proofs.Numbers.{high_append, high_push, high_none, range_length}
use Rattle.list_laws.proofs.Ranges.{range_more, range_below}

-- what the rule reads of a view
abbrev weight : Hand → ℕ
weight v = v.stands_for

abbrev numbers : Hand → List ℕ
numbers v = v.drawn

abbrev IsFewHigh : ℕ → Hand → Type 0
IsFewHigh limit v = high_of limit v.drawn ≤ v.stands_for

abbrev IsSpent : Hand → Type 0
IsSpent v = v.stands_for ≡ 0 → v.drawn ≡ []

-- seats that each drew few high numbers drew few together
few_high : (limit : ℕ) (views : List Hand) → All (IsFewHigh limit) views → high_of limit (flat_map numbers views) ≤ sum_by weight views
few_high limit [] each = omega arith
few_high limit (v ∷ vs) each =
    omega (arith, high_append limit v.drawn (flat_map numbers vs), sum_by-cons weight v vs, All-head (IsFewHigh limit) v vs each, few_high limit vs (All-tail (IsFewHigh limit) v vs each))

-- so the word stays near the limit
pub word_most : (limit : ℕ) (s : State (Unit {0}) Hand) → IsCounted limit s → slice_index s.words 0 ≤ limit + ALL_SEATS
word_most limit s h =
    let n = slice_index s.words 0 in
    let same : high_of limit (range_with_len 0 n) ≡ high_of limit (flat_map numbers s.views) = sum_by-IsPermutation (λ x. cond (leb limit x) 1 0) _ _ h.once in
    omega (arith, range_length limit n, few_high limit s.views h.high, h.all)

-- a new word
pub begins : (limit : ℕ) → IsCounted limit (opening (0 ∷ []) [] (hand ALL_SEATS limit []))
begins limit = record {
  one = (0, refl);
  all = refl;
  once = IsPermutation-refl [];
  high = All-cons (IsFewHigh limit) (hand ALL_SEATS limit []) [] (omega arith) (All-nil (IsFewHigh limit));
  spent = All-cons IsSpent (hand ALL_SEATS limit []) [] (λ _. refl) (All-nil IsSpent);
}

-- a draw
pub draws : (limit slots id : ℕ) (me : Me (Unit {0}) Hand) → All (λ n. n < limit) me.0.drawn → 0 < me.0.stands_for → limit ≤ MOST_NUMBERS →
    Allows (IsCounted limit) slots id me 0 (λ n. (n + 1) % 2 ^ 64)
    (λ n after. (after ≡ (hand me.0.stands_for me.0.limit (me.0.drawn ++ n ∷ []), me.1)) × All (λ x. x < n) me.0.drawn)
draws limit slots id me low some_seat most s h homes at small =
    let n = slice_index s.words 0 in
    let v = me.0 in
    let w : Hand = hand v.stands_for v.limit (v.drawn ++ n ∷ []) in
    let near = word_most limit s h in
    let next : (n + 1) % 2 ^ 64 ≡ n + 1 = mod-eq_of_lt (omega arith) in
    let words : set s.words 0 ((n + 1) % 2 ^ 64) ≡ (n + 1) ∷ [] = ap (λ (l : List ℕ). set l 0 ((n + 1) % 2 ^ 64)) h.one.1 ∙ ap (λ (m : ℕ). m ∷ []) next in
    let all_below : All (λ x. x < n) (flat_map numbers s.views) = All-permutation (λ x. x < n) _ _ (IsPermutation-sym _ _ h.once) (range_below n) in (
      w,
      keeps,
      tt,
      record {
        one = (n + 1, words);
        all = omega (arith, sum_by-set_at weight s.views id v w at, h.all);
        once = subst (λ (l : List ℕ). IsPermutation (flat_map numbers (set s.views id w)) (range_with_len 0 (slice_index l 0))) (sym words)
            (IsPermutation-trans _ _ _ (IsPermutation-sym _ _ (flat_map-grown numbers s.views id v w (n ∷ []) at refl))
            (IsPermutation-trans _ _ _ (IsPermutation-append_left (n ∷ []) _ _ h.once) (IsPermutation-same _ _ (sym (range_more n)))));
        high = All-set (IsFewHigh limit) s.views id w (omega (arith, high_push limit v.drawn n, high_none limit v.drawn low)) h.high;
        spent = All-set IsSpent s.views id w (λ none. absurd (omega arith)) h.spent;
      },
      (refl, All-flat_map_at (λ x. x < n) numbers s.views id v at all_below),
    )

-- a seat is given away
pub forks : (limit id : ℕ) (v : Hand) → 1 < v.stands_for → v.drawn ≡ [] → Splits (IsCounted limit) id v (hand (v.stands_for - 1) v.limit v.drawn) (hand 1 v.limit [])
forks limit id v two none s h at =
    let l : Hand = hand (v.stands_for - 1) v.limit v.drawn in
    let r : Hand = hand 1 v.limit [] in
    let vs : List Hand = set s.views id l in
    let same = flat_map-beside numbers s.views id v l r at refl refl in
    record {
      one = h.one;
      all = omega (arith, sum_by-set_at weight s.views id v l at, sum_by_push weight vs r, h.all);
      once = IsPermutation-trans _ _ _ (IsPermutation-same _ _ same) h.once;
      high = All-push (IsFewHigh limit) vs r (All-set (IsFewHigh limit) s.views id l (omega (arith, ap (high_of limit) none)) h.high) (omega arith);
      spent = All-push IsSpent vs r (All-set IsSpent s.views id l (λ _. none) h.spent) (λ _. refl);
    }

-- a seat takes another, and what it drew
pub merges : (limit id : ℕ) (v : Hand) (other : ℕ) (u : Hand) → 0 < v.stands_for → Joins (IsCounted limit) id v other u (hand (v.stands_for + u.stands_for) v.limit (v.drawn ++ u.drawn)) (hand 0 0 [])
merges limit id v other u some_seat s h at differ at' =
    let both : Hand = hand (v.stands_for + u.stands_for) v.limit (v.drawn ++ u.drawn) in
    let none : Hand = hand 0 0 [] in
    let vs : List Hand = set s.views id both in
    let was : get_elem? s.views other ≡ some u = sym (set_else s.views id other both differ) ∙ at' in
    let few : high_of limit both.drawn ≤ both.stands_for =
    omega (arith, high_append limit v.drawn u.drawn, All-at (IsFewHigh limit) s.views id v at h.high, All-at (IsFewHigh limit) s.views other u was h.high) in
    record {
      one = h.one;
      all = omega (arith, sum_by-set_at weight s.views id v both at, sum_by-set_at weight vs other u none at', h.all);
      once = IsPermutation-trans _ _ _ (IsPermutation-sym _ _ (flat_map-moved numbers s.views id other v u both none differ (set_else s.views other id none (λ e. differ (sym e)) ∙ at) was refl refl)) h.once;
      high = All-set (IsFewHigh limit) vs other none (omega arith) (All-set (IsFewHigh limit) s.views id both few h.high);
      spent = All-set IsSpent vs other none (λ _. refl) (All-set IsSpent s.views id both (λ no. absurd (omega arith)) h.spent);
    }

-- a seat drew no more numbers than all seats together
few_at : (views : List Hand) (id : ℕ) (v : Hand) → get_elem? views id ≡ some v → length v.drawn ≤ length (flat_map numbers views)
few_at [] id v at = absurd (some-ne-none v (sym at))
few_at (x ∷ vs) zero v at = omega (arith, ap (λ (w : Hand). length w.drawn) (some-injective x v at), length-append x.drawn (flat_map numbers vs))
few_at (x ∷ vs) (suc id) v at = omega (arith, few_at vs id v at, length-append x.drawn (flat_map numbers vs))

-- a load that tells a seat only how many numbers were drawn
pub reads : (limit slots id : ℕ) (me : Me (Unit {0}) Hand) → limit ≡ me.0.limit → Allows (IsCounted limit) slots id me 0 (λ n. n)
    (λ n after. (after ≡ me) × (n ≤ me.0.limit + ALL_SEATS) × All (λ x. x < n) me.0.drawn × (length me.0.drawn ≤ n))
reads limit slots id me its s h homes at small =
    let n = slice_index s.words 0 in
    let v = me.0 in
    let words : set s.words 0 n ≡ s.words = ap (λ (l : List ℕ). set l 0 (slice_index l 0)) h.one.1 ∙ sym h.one.1 in
    let views : set s.views id v ≡ s.views = set_again s.views id v at in
    let all_below : All (λ x. x < n) (flat_map numbers s.views) = All-permutation (λ x. x < n) _ _ (IsPermutation-sym _ _ h.once) (range_below n) in
    let as_many : length (range_with_len 0 n) ≡ length (flat_map numbers s.views) = length_permutation (flat_map numbers s.views) (range_with_len 0 n) h.once in (
      v,
      keeps,
      tt,
      subst (λ (l : List ℕ). IsCounted limit record { words = l; homes = s.homes; views = set s.views id v }) (sym words)
          (subst (λ (vs : List Hand). IsCounted limit record { words = s.words; homes = s.homes; views = vs }) (sym views) h),
      (
        refl,
        omega (arith, word_most limit s h),
        All-flat_map_at (λ x. x < n) numbers s.views id v at all_below,
        omega (arith, few_at s.views id v at, as_many, length-range_with_len 0 n),
      ),
    )

-- the closing load
pub closes : (limit slots id : ℕ) (me : Me (Unit {0}) Hand) → limit ≡ me.0.limit → Allows (IsCounted limit) slots id me 0 (λ n. n)
    (λ n after. (after ≡ me) × (n ≤ me.0.limit + ALL_SEATS) × (me.0.stands_for ≡ ALL_SEATS → IsPermutation me.0.drawn (range_with_len 0 n)))
closes limit slots id me its s h homes at small =
    let n = slice_index s.words 0 in
    let v = me.0 in
    let words : set s.words 0 n ≡ s.words = ap (λ (l : List ℕ). set l 0 (slice_index l 0)) h.one.1 ∙ sym h.one.1 in
    let views : set s.views id v ≡ s.views = set_again s.views id v at in (
      v,
      keeps,
      tt,
      subst (λ (l : List ℕ). IsCounted limit record { words = l; homes = s.homes; views = set s.views id v }) (sym words)
          (subst (λ (vs : List Hand). IsCounted limit record { words = s.words; homes = s.homes; views = vs }) (sym views) h),
      (
        refl,
        omega (arith, word_most limit s h),
        λ all. subst (λ (l : List ℕ). IsPermutation l (range_with_len 0 n)) (flat_map-one numbers s.views id v at (λ j u there differ. All-at IsSpent s.views j u there h.spent (sum_by-else weight s.views id j v u at there differ (h.all ∙ sym all)))) h.once,
      ),
    )
