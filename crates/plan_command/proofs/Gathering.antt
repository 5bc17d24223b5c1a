-- The lines of a scenario, which are gathered up to the first line `end`.
use Rattle.std.proofs.Common.{ℕ, ◌≡◌, ◌≢◌, ◌+◌, ◌-◌, ◌<◌, inl, inr, List, ◌++◌, length, get_or, take, Option, Some, None, ap, ◌∙◌, subst, arith, below_more}
use Rattle.std.proofs.Math.Seq.{take-append-add}
use Rattle.std.proofs.lemmas.Bool.{cases_lt}
use Rattle.std.proofs.lemmas.List.{take-append-le, same_from_push, length-append}
use Rattle.scenario_text.specs.Laws.{EndsWithEnd}
use Rattle.plan_command.specs.declared.judge.Task.{Task}
use Rattle.plan_command.specs.declared.intake.Intake.{Intake}
use Rattle.plan_command.specs.Intakes.{HasNoEnd, HasNoEndBefore, HasTaken, GathersOn, Becomes}
use Rattle.plan_command.proofs.Judging.{gathered_byte}

-- A byte more of a piece.

abbrev EndsNot : List ℕ → List ℕ → ℕ → Type 0
EndsNot old piece n = 0 < n → EndsWithEnd (old ++ take n piece) → ⊥

pub none_at_first : (old piece : List ℕ) → HasNoEndBefore old piece 1
none_at_first old piece n lt some h = absurd (omega (arith, lt, some))

pub none_here : (old piece : List ℕ) (i : ℕ) → HasNoEndBefore old piece (i + 1) → (EndsWithEnd (old ++ take (i + 1) piece) → ⊥) → HasNoEndBefore old piece (i + 1 + 1)
none_here old piece i before this = below_more (EndsNot old piece) (i + 1) before (λ _. this)

-- one that is no line feed ends no line
pub no_feed_here : (old piece now : List ℕ) (i : ℕ) → i < length piece → now ≡ old ++ take i piece → get_or piece i 0 ≢ 10 → EndsWithEnd (old ++ take (i + 1) piece) → ⊥
no_feed_here old piece now i lt so_far other h =
    other (same_from_push now h.feed.0 (get_or piece i 0) 10 (gathered_byte old piece now i lt so_far ∙ h.feed.1)).1

pub ruleset gather_steps = (gathered_byte, none_at_first)

-- A piece more.

pub none_more : (bytes piece : List ℕ) → HasNoEnd bytes → HasNoEndBefore bytes piece (length piece + 1) → HasNoEnd (bytes ++ piece)
none_more bytes piece before on n le h = elim (cases_lt (length bytes) n) [
  | inl past ↦
      let whole : n ≡ length bytes + (n - length bytes) = omega (arith, past) in
      let cut : take n (bytes ++ piece) ≡ bytes ++ take (n - length bytes) piece = ap (λ (k : ℕ). take k (bytes ++ piece)) whole ∙ take-append-add bytes piece (n - length bytes) in
      on (n - length bytes) (omega (arith, le, past, length-append bytes piece)) (omega (arith, past)) (subst EndsWithEnd cut h)
  | inr within ↦ before n within (subst EndsWithEnd (take-append-le n bytes piece within) h)
]

pub lines_more : (task due : Task) (bytes old piece new : List ℕ) → (due ≡ task) × (old ≡ bytes) × HasNoEnd bytes → (new ≡ old ++ piece) × HasNoEndBefore old piece (length piece + 1) → (due ≡ task) × (new ≡ bytes ++ piece) × HasNoEnd (bytes ++ piece)
lines_more task due bytes old piece new (is, same, before) (whole, on) =
    (is, whole ∙ ap (λ (t : List ℕ). t ++ piece) same, none_more bytes piece before (subst (λ (t : List ℕ). HasNoEndBefore t piece (length piece + 1)) same on))

-- so they were, or the intake became another where they ended
pub gathered_more : (task due : Task) (bytes old piece new : List ℕ) (intake : Intake) (next : Option Intake) → (due ≡ task) × (old ≡ bytes) × HasNoEnd bytes → GathersOn due old piece new next →
    ((due ≡ task) × (new ≡ bytes ++ piece) × HasNoEnd (bytes ++ piece) → HasTaken task (bytes ++ piece) intake) → Becomes task (bytes ++ piece) intake next
gathered_more task due bytes old piece new intake None before added taken = taken (lines_more task due bytes old piece new before added)
gathered_more task due bytes old piece new intake (Some next) (is, same, none) became taken =
    subst (λ (t : Task). HasTaken t (bytes ++ piece) next) is (subst (λ (b : List ℕ). HasTaken due (b ++ piece) next) same became)
