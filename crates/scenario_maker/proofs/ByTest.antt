-- What tests on written lists tell.
use Rattle.std.proofs.Common.{ℕ, zero, suc, ◌<◌, ◌≤◌, ◌≡◌, Bool, true, not, ◌&&◌, List, [], ◌∷◌, length, get_or, take, map, sym, ◌∙◌, arith, add-one, inl, inr}
use Rattle.std.specs.Prelude.{◌==◌, nat_lt, nat_le, All, sum_by}
use Rattle.std.specs.List.{list_all, list_any}
use Rattle.std.specs.List.Sorted.{IsStrictlyIncreasing}
use Rattle.std.specs.Str.{bytes_eq}
use Rattle.std.proofs.lemmas.Bool.{ltb-true, leb-true, eqb-true, and_parts, not-true, true≢false}
use Rattle.std.proofs.lemmas.List.Elements.{All-nil, All-cons}
use Rattle.std.proofs.lemmas.List.Folds.{list_any_at}
use Rattle.std.proofs.lemmas.Slice.Eq.{bytes_eq-Decides}
use Rattle.period_rows.specs.declared.part.CellPart.{CellPart}
use Rattle.drift_chain.specs.DriftRows.{IsDriftRow}
use Rattle.search_model.specs.Names.{name_in, IsRepeated}
use Rattle.list_laws.proofs.Members.{Contains-nil, Contains-cons_cases}

-- what passes a test
pub All-by_test : {X : Type 0} (test : X → Bool) (P : X → Type 0) → ((x : X) → test x ≡ true → P x) → (xs : List X) → list_all test xs ≡ true → All P xs
All-by_test test P tells [] passes = All-nil P
All-by_test test P tells (x ∷ xs) passes =
    let parts = and_parts (test x) (list_all test xs) passes in
    All-cons P x xs (tells x parts.0) (All-by_test test P tells xs parts.1)

-- rising numbers
abbrev pub rises : List ℕ → Bool
rises [] = true
rises (x ∷ []) = true
rises (x ∷ y ∷ ys) = nat_lt x y && rises (y ∷ ys)

IsStrictlyIncreasing-by_test : (xs : List ℕ) → rises xs ≡ true → IsStrictlyIncreasing xs
IsStrictlyIncreasing-by_test [] passes k lt = absurd (omega arith)
IsStrictlyIncreasing-by_test (x ∷ []) passes k lt = absurd (omega arith)
IsStrictlyIncreasing-by_test (x ∷ y ∷ ys) passes zero lt = ltb-true x y (and_parts (nat_lt x y) (rises (y ∷ ys)) passes).0
IsStrictlyIncreasing-by_test (x ∷ y ∷ ys) passes (suc k) lt =
    let rest = IsStrictlyIncreasing-by_test (y ∷ ys) (and_parts (nat_lt x y) (rises (y ∷ ys)) passes).1 k (omega arith) in
    rw add-one (rw add-one at rest)

-- drift rows
abbrev pub is_drift_row : ℕ → ℕ → List CellPart → Bool
is_drift_row denominator cells row =
    list_all (λ e. nat_lt e.cell cells) row && (list_all (λ e. nat_le 1 e.part) row && (rises (map (λ e. e.cell) row) && (sum_by (λ e. e.part) row == denominator)))

pub IsDriftRow-by_test : (denominator cells : ℕ) (row : List CellPart) → is_drift_row denominator cells row ≡ true → IsDriftRow denominator cells row
IsDriftRow-by_test denominator cells row passes =
    let within = and_parts (list_all (λ (e : CellPart). nat_lt e.cell cells) row) _ passes in
    let positive = and_parts (list_all (λ (e : CellPart). nat_le 1 e.part) row) _ within.1 in
    let ascending = and_parts (rises (map (λ (e : CellPart). e.cell) row)) _ positive.1 in
    record {
      within = All-by_test (λ e. nat_lt e.cell cells) (λ e. e.cell < cells) (λ e. ltb-true e.cell cells) row within.0;
      positive = All-by_test (λ e. nat_le 1 e.part) (λ e. 1 ≤ e.part) (λ e. leb-true 1 e.part) row positive.0;
      ascending = IsStrictlyIncreasing-by_test (map (λ e. e.cell) row) ascending.0;
      total = eqb-true (sum_by (λ e. e.part) row) denominator ascending.1;
    }

-- names that differ from all later ones
abbrev pub differ : List (List ℕ) → Bool
differ [] = true
differ (name ∷ names) = not (list_any (bytes_eq name) names) && differ names

pub differ-apart : (names : List (List ℕ)) → differ names ≡ true → (c : ℕ) → ¬ IsRepeated names c
differ-apart [] passes c repeated = omega (arith, repeated.0)
differ-apart (name ∷ names) passes zero repeated = Contains-nil name repeated.1
differ-apart (name ∷ names) passes (suc c) repeated =
    let parts = and_parts (not (list_any (bytes_eq name) names)) (differ names) passes in
    let within : c < length names = omega (arith, repeated.0) in
    elim (Contains-cons_cases name (name_in names c) (take c names) repeated.1) [
      | inl same ↦ true≢false (sym (list_any_at (bytes_eq name) names c [] within ((bytes_eq-Decides name (get_or names c [])).1 same)) ∙ not-true _ parts.0)
      | inr before ↦ differ-apart names parts.1 c (within, before)
    ]
