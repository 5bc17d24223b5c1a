-- Rows of single periods.
use Rattle.std.proofs.Common.{◌≡◌, ℕ, zero, suc, ◌+◌, ◌<◌, ◌≤◌, cond, Bool, true, List, [], ◌∷◌, length, get_or, refl, ◌∙◌, arith}
use Rattle.std.specs.Prelude.{◌==◌, ◌&&◌, count_by}
use Rattle.std.proofs.lemmas.Bool.{eq-eqb}
use Rattle.std.proofs.lemmas.List.Sums.{sum_by-cons}
use Rattle.period_rows.specs.declared.part.CellPart.{CellPart}
use Rattle.scenario_text.specs.State.{PeriodRow}
use Rattle.scenario_text.specs.Sound.{ArePeriodRows}

abbrev pub nothing : PeriodRow
nothing = record { period = 0; own = 0; row = [] }

-- a test that passes at one place, or at two
once : {X : Type 0} (p : X → Bool) (xs : List X) (i : ℕ) (d : X) → i < length xs → p (get_or xs i d) ≡ true → 1 ≤ count_by p xs
once p [] i d lt is = absurd (omega arith)
once p (x ∷ xs) zero d lt is =
    let one : count_by p (x ∷ xs) ≡ 1 + count_by p xs = sum_by-cons (λ y. cond (p y) 1 0) x xs ∙ rw is refl in
    omega (arith, one)
once p (x ∷ xs) (suc i) d lt is =
    let step = sum_by-cons (λ y. cond (p y) 1 0) x xs in
    let some = once p xs i d (omega arith) is in
    omega (arith, step, some)

twice : {X : Type 0} (p : X → Bool) (xs : List X) (k i : ℕ) (d : X) → k < i → i < length xs → p (get_or xs k d) ≡ true → p (get_or xs i d) ≡ true → 2 ≤ count_by p xs
twice p [] k i d before lt here there = absurd (omega arith)
twice p (x ∷ xs) k zero d before lt here there = absurd (omega arith)
twice p (x ∷ xs) zero (suc i) d before lt here there =
    let one : count_by p (x ∷ xs) ≡ 1 + count_by p xs = sum_by-cons (λ y. cond (p y) 1 0) x xs ∙ rw here refl in
    let some = once p xs i d (omega arith) there in
    omega (arith, one, some)
twice p (x ∷ xs) (suc k) (suc i) d before lt here there =
    let step = sum_by-cons (λ y. cond (p y) 1 0) x xs in
    let both = twice p xs k i d (omega arith) (omega arith) here there in
    omega (arith, step, both)

-- no two rows are for one period and one owner
pub alone : (last owners : ℕ) (IsRow : List CellPart → Type 0) (rows : List PeriodRow) → ArePeriodRows last owners IsRow rows → (k i : ℕ) → k < i → i < length rows →
    (get_or rows k nothing).period ≡ (get_or rows i nothing).period → (get_or rows k nothing).own ≡ (get_or rows i nothing).own → ⊥
alone last owners IsRow rows h k i before inside period own =
    let t = (get_or rows i nothing).period in
    let c = (get_or rows i nothing).own in
    let most = h.once t c in
    let here : ((get_or rows k nothing).period == t && (get_or rows k nothing).own == c) ≡ true = rw (eq-eqb _ _ period, eq-eqb _ _ own) refl in
    let there : (t == t && c == c) ≡ true = rw (eq-eqb t t refl, eq-eqb c c refl) refl in
    let two = twice (λ r. r.period == t && r.own == c) rows k i nothing before inside here there in
    omega (arith, most, two)
