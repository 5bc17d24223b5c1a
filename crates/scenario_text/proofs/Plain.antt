-- What a text of version 1 can say.
use Rattle.std.proofs.Common.{◌≡◌, ℕ, ◌-◌, ◌<◌, ◌≤◌, true, false, List, [], ◌∷◌, ◌++◌, refl, sym, ap, ◌∙◌, arith, inl, inr}
use Rattle.std.specs.Prelude.{codes}
use Rattle.std.specs.Cmp.Lexicographic.{pointwise}
use Rattle.std.specs.Str.{bytes_eq}
use Rattle.std.proofs.lemmas.Bool.{cases_Bool, cases_eq, and_parts, and_from}
use Rattle.period_rows.specs.declared.part.CellPart.{CellPart}
use Rattle.period_rows.specs.Rows.{is_same_row}
use Rattle.period_rows.proofs.SameRows.{same_entries, entries_same}
use Rattle.drift_chain.specs.DriftRows.{row_of}
use Rattle.search_model.specs.Problem.{Problem, IsProblem}
use Rattle.scenario_text.specs.declared.draft.TextVersion.TheVariants.{One, Two}
use Rattle.scenario_text.specs.State.{State}
use Rattle.scenario_text.specs.Canonical.{covered, is_as_first, is_steady, covers_itself, is_plain, plain_state, full_state, state_of_problem, canonical_text}
use Rattle.scenario_text.specs.Printing.{chosen_rows}
use Rattle.text_rows.specs.Rows.{text_of}
use Rattle.scenario_text.specs.Laws.{IsPlain, CanonicalVersion}
use Rattle.scenario_text.proofs.Printed.{plain_state_rows, full_state_rows}
use Rattle.scenario_text.proofs.SameRows.{all_from, all_each, same_names, names_same, factors_same, covered_same, covers_itself-from, covers_itself-each}

-- the state by the test
pub state_plain : (p : Problem) → is_plain p ≡ true → state_of_problem p ≡ plain_state p
unfolding state_of_problem
state_plain p plain = rw plain refl

pub state_full : (p : Problem) → is_plain p ≡ false → state_of_problem p ≡ full_state p
unfolding state_of_problem
state_full p full = rw full refl

-- rows that are steady, period by period
steady_each : (row : ℕ → ℕ → List CellPart) (owners last t c : ℕ) → is_steady row owners last ≡ true → 1 ≤ t → t ≤ last → c < owners → row t c ≡ row 1 c
steady_each row owners last t c all low high inside =
    elim (cases_eq t 1) [
      | inl first ↦ ap (λ (k : ℕ). row k c) first
      | inr later ↦
          let period = all_each (is_as_first row owners) (last - 1) 2 t all (omega (arith, low, later)) (omega (arith, high, low, later)) in
          same_entries (row t c) (row 1 c) (all_each (λ c. is_same_row (row t c) (row 1 c)) owners 0 c period (omega arith) (omega (arith, inside)))
    ]

steady_from : (row : ℕ → ℕ → List CellPart) (owners last : ℕ) → ((t c : ℕ) → 1 ≤ t → t ≤ last → c < owners → row t c ≡ row 1 c) → is_steady row owners last ≡ true
steady_from row owners last each =
    all_from (is_as_first row owners) (last - 1) 2 (λ t low high.
    all_from (λ c. is_same_row (row t c) (row 1 c)) owners 0 (λ c from inside. entries_same (row t c) (row 1 c) (each t c (omega (arith, low)) (omega (arith, low, high)) (omega (arith, inside)))))

pub plain_names : (p : Problem) → is_plain p ≡ true → p.position_names ≡ p.names
unfolding is_plain
plain_names p plain = same_names p.position_names p.names (and_parts (pointwise bytes_eq p.position_names p.names) _ plain).0

-- the text is made of the rows that are printed
pub canonical_rows : (p : Problem) → IsProblem p → canonical_text p ≡ text_of (chosen_rows p ++ (codes "end" ∷ []) ∷ [])
unfolding canonical_text
canonical_rows p h = elim (cases_Bool (is_plain p)) [
  | inl plain ↦ rw (state_plain p plain, plain) (ap text_of (plain_state_rows p h (plain_names p plain)))
  | inr full ↦ rw (state_full p full, full) (ap text_of (full_state_rows p h))
]

module _ (p : Problem) (h : IsProblem p) where
  pub plain_is : is_plain p ≡ true → IsPlain p
  unfolding is_plain
  plain_is plain =
      let names = and_parts (pointwise bytes_eq p.position_names p.names) _ plain in
      let drift = and_parts (is_steady (row_of p.drift) p.cells (p.horizon - 1)) _ names.1 in
      let looks = and_parts (is_steady (covered p) p.positions p.horizon) _ drift.1 in
      record {
        positions = same_names p.position_names p.names names.0;
        drift = λ t c low high inside. steady_each (row_of p.drift) p.cells (p.horizon - 1) t c drift.0 low (omega (arith, high)) inside;
        looks = λ t a c low high position cell. factors_same p h t 1 a (steady_each (covered p) p.positions p.horizon t a looks.0 low high position) c;
        own = λ a c position cell other. covers_itself-each p h a (all_each (covers_itself p) p.positions 0 a looks.1 (omega arith) (omega (arith, position))) c (λ same. other (sym same));
      }

  is_plain_from : IsPlain p → is_plain p ≡ true
  unfolding is_plain
  is_plain_from plain =
      and_from (pointwise bytes_eq p.position_names p.names) _ (names_same p.position_names p.names plain.positions)
      (and_from (is_steady (row_of p.drift) p.cells (p.horizon - 1)) _ (steady_from (row_of p.drift) p.cells (p.horizon - 1) (λ t c low high inside. plain.drift t c low (omega (arith, low, high)) inside))
      (and_from (is_steady (covered p) p.positions p.horizon) _ (steady_from (covered p) p.positions p.horizon (λ t a low high inside. covered_same p h t 1 a (λ c cell. plain.looks t a c low high inside cell)))
      (all_from (covers_itself p) p.positions 0 (λ a low inside. covers_itself-from p h a (λ c cell other. plain.own a c (omega (arith, inside)) cell (λ same. other (sym same)))))))

pub canonical_version : CanonicalVersion
canonical_version p h = (
  λ one. elim (cases_Bool (is_plain p)) [
    | inl plain ↦ plain_is p h plain
    | inr full ↦ absurd (let bad : Two ≡ One = sym (ap (λ (s : State). s.version) (state_full p full)) ∙ one in let end : ⊥ = cc in end)
  ],
  λ plain. ap (λ (s : State). s.version) (state_plain p (is_plain_from p h plain)),
)
