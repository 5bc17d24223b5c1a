-- A name that a line adds has the fault of that line's table, or joins the others.
use Rattle.std.proofs.Common.{◌≡◌, ℕ, List, [], ◌∷◌, length, Option, Some, None, Result, Ok, Err, refl, sym, ap, ◌∙◌, inl, inr}
use Rattle.std.specs.Prelude.{nat_lt, nat_le, is_some, ◌||◌, if◌then◌else◌}
use Rattle.std.specs.List.{list_all}
use Rattle.std.proofs.lemmas.Bool.{cases_Bool}
use Rattle.search_model.specs.Names.{is_name_byte}
use Rattle.scenario_text.specs.declared.kind.TextKind.{TextKind}
use Rattle.scenario_text.specs.declared.kind.TextKind.TheVariants.{BadLine, OverLimit, DoubleName}
use Rattle.scenario_text.specs.declared.line.Line.TheVariants.{Cell, Position}
use Rattle.scenario_text.specs.Fields.{cell_named}
use Rattle.scenario_text.specs.NewNames.{name_fault}
use Rattle.scenario_text.specs.State.{State}
use Rattle.scenario_text.specs.Grammar.{row_at, with_name, with_position}

-- no fault, and what is added, or a fault alone
abbrev told : Option TextKind → State → Result State TextKind
told None t = Ok t
told (Some kind) t = Err kind

cell_row : (s : State) (name : List ℕ) → row_at Cell s (name ∷ []) ≡ told (name_fault s.names name) (with_name s name)
unfolding name_fault
cell_row s name =
    elim (cases_Bool (list_all is_name_byte name)) [
      | inr ill ↦ rw ill refl
      | inl good ↦
          elim (cases_Bool (nat_lt 24 (length name))) [
            | inl long ↦ rw (good, long) refl
            | inr short ↦
                elim (cases_Bool (nat_le 200 (length s.names))) [
                  | inl many ↦ rw (good, short, many) refl
                  | inr few ↦
                      elim (cases_Bool (is_some (cell_named s.names name))) [
                        | inl known ↦ rw (good, short, few, known) refl
                        | inr new ↦ rw (good, short, few, new) refl
                      ]
                ]
          ]
    ]

position_row : (s : State) (name : List ℕ) → row_at Position s (name ∷ []) ≡ told (name_fault s.positions name) (with_position s name)
unfolding name_fault
position_row s name =
    elim (cases_Bool (list_all is_name_byte name)) [
      | inr ill ↦ rw ill refl
      | inl good ↦
          elim (cases_Bool (nat_lt 24 (length name))) [
            | inl long ↦ rw (good, long) refl
            | inr short ↦
                elim (cases_Bool (nat_le 200 (length s.positions))) [
                  | inl many ↦ rw (good, short, many) refl
                  | inr few ↦
                      elim (cases_Bool (is_some (cell_named s.positions name))) [
                        | inl known ↦ rw (good, short, few, known) refl
                        | inr new ↦ rw (good, short, few, new) refl
                      ]
                ]
          ]
    ]

pub cell_fault : (s : State) (name : List ℕ) (kind : TextKind) → Some kind ≡ name_fault s.names name → row_at Cell s (name ∷ []) ≡ Err kind
cell_fault s name kind e = cell_row s name ∙ ap (λ (f : Option TextKind). told f (with_name s name)) (sym e)

pub cell_added : (s : State) (name : List ℕ) → None ≡ name_fault s.names name → row_at Cell s (name ∷ []) ≡ Ok (with_name s name)
cell_added s name e = cell_row s name ∙ ap (λ (f : Option TextKind). told f (with_name s name)) (sym e)

pub position_fault : (s : State) (name : List ℕ) (kind : TextKind) → Some kind ≡ name_fault s.positions name → row_at Position s (name ∷ []) ≡ Err kind
position_fault s name kind e = position_row s name ∙ ap (λ (f : Option TextKind). told f (with_position s name)) (sym e)

pub position_added : (s : State) (name : List ℕ) → None ≡ name_fault s.positions name → row_at Position s (name ∷ []) ≡ Ok (with_position s name)
position_added s name e = position_row s name ∙ ap (λ (f : Option TextKind). told f (with_position s name)) (sym e)

-- a name without a fault isn't there yet
pub name_new : (names : List (List ℕ)) (name : List ℕ) → None ≡ name_fault names name → cell_named names name ≡ None
unfolding name_fault
name_new names name e =
    elim (cases_Bool (list_all is_name_byte name)) [
      | inr ill ↦ absurd (let bad : None ≡ Some BadLine = e ∙ rw ill refl in cc)
      | inl good ↦
          elim (cases_Bool (nat_lt 24 (length name) || nat_le 200 (length names))) [
            | inl over ↦ absurd (let bad : None ≡ Some OverLimit = e ∙ rw (good, over) refl in cc)
            | inr fits ↦ unknown (cell_named names name) (e ∙ rw (good, fits) refl)
          ]
    ]
  where
    unknown : (o : Option ℕ) → None ≡ (if is_some o then Some DoubleName else None) → o ≡ None
    unknown None e = refl
    unknown (Some c) e = absurd (let bad : None ≡ Some DoubleName = e in cc)
