-- A prefix of which less is missed has the greater value, so the move that leaves the least is the best one.
use Rattle.std.proofs.Common.{ℕ, ◌+◌, ◌*◌, ◌-◌, ◌^◌, ◌<◌, ◌≤◌, ◌≡◌, ◌⊎◌, List, [], ◌∷◌, ◌++◌, Some, map, length, get_or, inl, inr, refl, sym, ap, subst, ◌∙◌, arith, Contains, length-append}
use Rattle.std.specs.List.Sorted.{IsStrictlyIncreasing}
use Rattle.std.proofs.lemmas.Bool.{cases_order, cases_lt}
use Rattle.std.proofs.lemmas.List.{get_or_default, map-append}
use Rattle.std.proofs.lemmas.List.Elements.{All-weaker, All-contains_itself, Contains-get_or}
use Rattle.std.proofs.lemmas.List.Kept.{AllPairs-from_increasing}
use Rattle.std.proofs.Math.Nat.{one-le-pow, one-le-mul, mul-le-mul_right}
use Rattle.search_model.specs.Problem.{Problem, IsProblem}
use Rattle.search_model.specs.Tracks.{missed_weight, whole_weight, value_of}
use Rattle.search_model.proofs.Totals.{nothing_is_cut_off}
use Rattle.belief_update.specs.Masses.{looks_to}
use Rattle.belief_update.proofs.Looks.{looks_to-whole}
use Rattle.belief_update.proofs.Missed.{missed_by_masses_hold}
use Rattle.opening_path.specs.Greedy.{left_after, LeavesLess, LeavesLeast}
use Rattle.opening_path.proofs.FirstLeast.{IsFirstLeast}

-- what a longer prefix misses is what it leaves, times parts that are the same for each move
missed_after : (p : Problem) → IsProblem p → (q : List ℕ) (a : ℕ) → length q < p.horizon →
    missed_weight p (q ++ a ∷ []) ≡ left_after p q a * (p.drift.denominator ^ (p.horizon - (length q + 1)) * p.sweep.denominator ^ (p.horizon - (length q + 1)))
missed_after p sound q a short =
    let long : length (q ++ a ∷ []) ≡ length q + 1 = length-append q (a ∷ []) in
    let looks : looks_to (length q + 1) (q ++ a ∷ []) ≡ map Some q ++ Some a ∷ [] = looks_to-whole (length q + 1) (q ++ a ∷ []) (sym long) ∙ map-append Some q (a ∷ []) in
    let law = missed_by_masses_hold p sound (q ++ a ∷ []) (length q + 1) (omega arith) (omega (arith, long)) (omega (arith, short)) in
    omega (arith, rw (looks, long) at law)

-- the same parts are one at least
some_parts : (p : Problem) → IsProblem p → (n : ℕ) → 1 ≤ p.drift.denominator ^ n * p.sweep.denominator ^ n
some_parts p sound n = one-le-mul (one-le-pow n p.drift.denominator (omega (arith, sound.drift.denominator))) (one-le-pow n p.sweep.denominator (omega (arith, sound.sweep.denominator)))

-- a product with a smaller number is smaller
times_less : (m n k : ℕ) → m < n → 1 ≤ k → m * k < n * k
times_less m n k less some = omega (arith, mul-le-mul_right k (let h : m + 1 ≤ n = omega arith in h))

-- who leaves less has the greater value, and who leaves as much the same
pub less_is_better : (p : Problem) → IsProblem p → (q : List ℕ) (a b : ℕ) → length q < p.horizon → LeavesLess p q a b →
    (value_of p (q ++ b ∷ []) < value_of p (q ++ a ∷ [])) ⊎ ((value_of p (q ++ b ∷ []) ≡ value_of p (q ++ a ∷ [])) × (a ≤ b))
less_is_better p sound q a b short (inl less) =
    let k = p.drift.denominator ^ (p.horizon - (length q + 1)) * p.sweep.denominator ^ (p.horizon - (length q + 1)) in
    let some : 1 ≤ k = some_parts p sound (p.horizon - (length q + 1)) in
    let misses : left_after p q a * k < left_after p q b * k = times_less (left_after p q a) (left_after p q b) k less some in
    inl (omega (arith, misses, missed_after p sound q a short, missed_after p sound q b short, nothing_is_cut_off p (q ++ b ∷ []) sound))
less_is_better p sound q a b short (inr (same, le)) =
    let k = p.drift.denominator ^ (p.horizon - (length q + 1)) * p.sweep.denominator ^ (p.horizon - (length q + 1)) in
    inr (ap (λ (m : ℕ). whole_weight p - m) (missed_after p sound q b short ∙ ap (λ (m : ℕ). m * k) same ∙ sym (missed_after p sound q a short)), le)

-- the first of the moves that leave the least is the least of them, since moves ascend
pub first_leaves_least : (p : Problem) (q moves : List ℕ) (i : ℕ) → IsStrictlyIncreasing moves → IsFirstLeast (left_after p q) moves (length moves) i → LeavesLeast p q moves (get_or moves i 0)
first_leaves_least p q moves i ascending first =
    let a = get_or moves i 0 in
    let each : (b : ℕ) → Contains moves b → LeavesLess p q a b =
    λ b listed.
    let at : get_or moves listed.0 0 ≡ b = get_or_default moves listed.0 0 b listed.1 ∙ listed.2 in
    subst (LeavesLess p q a) at (elim (cases_order listed.0 i) [
      | inl equal ↦ subst (λ (j : ℕ). LeavesLess p q a (get_or moves j 0)) (sym equal) (inr (refl, omega arith))
      | inr o ↦ elim o [
        | inl before ↦ inl (first.before listed.0 before)
        | inr after ↦ (
            let less : a < get_or moves listed.0 0 = AllPairs-from_increasing moves ascending i listed.0 0 after listed.1 in
            elim (cases_lt (left_after p q a) (left_after p q (get_or moves listed.0 0))) [
              | inl strict ↦ inl strict
              | inr le ↦ inr (omega (arith, le, first.least listed.0 listed.1), omega (arith, less))
            ])
      ]
    ]) in
    record {
      move = Contains-get_or moves i 0 first.place;
      least = All-weaker (Contains moves) (LeavesLess p q a) each moves (All-contains_itself moves);
    }
