-- Where the line `end` of a text stands, and what follows it.
use Rattle.std.proofs.Common.{◌≡◌, ℕ, ◌+◌, ◌-◌, ◌≤◌, true, List, length, Option, Some, None, Ok, refl, sym, ap, ◌∙◌, arith, length-append}
use Rattle.search_model.specs.Problem.{Problem}
use Rattle.scenario_text.specs.declared.draft.Stage.{Stage}
use Rattle.scenario_text.specs.declared.draft.Stage.TheVariants.{Version, Horizon, Parts, Cells, Positions, Start, First, Rows, Ended}
use Rattle.text_rows.specs.Lines.{lines_of, after_lines}
use Rattle.text_rows.proofs.LineMachine.{read_told}
use Rattle.scenario_text.specs.State.{blank_state}
use Rattle.scenario_text.specs.Reading.{Front, is_ended, scenario_lines, first_said, unless_more, alone, alone_of, front_of}
use Rattle.scenario_text.specs.Scenarios.{Says, IsFront, IsTextOf}
use Rattle.text_rows.proofs.LineCuts.{after_short, lines_fit}

-- the line `end` is the last one that is read
ended_stage : (stage : Stage) → is_ended stage ≡ true → stage ≡ Ended
ended_stage Version e = absurd (let bad : ⊥ = cc in bad)
ended_stage Horizon e = absurd (let bad : ⊥ = cc in bad)
ended_stage Parts e = absurd (let bad : ⊥ = cc in bad)
ended_stage Cells e = absurd (let bad : ⊥ = cc in bad)
ended_stage Positions e = absurd (let bad : ⊥ = cc in bad)
ended_stage Start e = absurd (let bad : ⊥ = cc in bad)
ended_stage First e = absurd (let bad : ⊥ = cc in bad)
ended_stage Rows e = absurd (let bad : ⊥ = cc in bad)
ended_stage Ended e = refl

pub front_ended : (text : List ℕ) (front : Front) → front_of text ≡ Ok front → front.state.stage ≡ Ended
front_ended text front is = ended_stage front.state.stage (read_told scenario_lines blank_state 1 (lines_of text) front refl is).ends

pub front_line : (text : List ℕ) (front : Front) → front_of text ≡ Ok front → front.line ≤ length (lines_of text)
front_line text front is =
    let read = read_told scenario_lines blank_state 1 (lines_of text) front refl is in
    let long = ap length read.whole in
    omega (arith, long, length-append read.read read.behind, read.line)

pub front_room : (text : List ℕ) (front : Front) → front_of text ≡ Ok front → front.line + length (after_lines front.line text) ≤ length text
front_room text front is = lines_fit front.line text (front_line text front is)

-- What was read is the scenario at the front, and of the whole text where nothing more is said.
pub IsFront-read : (text rest : List ℕ) (front : Front) (p : Problem) (n : ℕ) → front_of text ≡ Ok front → rest ≡ after_lines front.line text → Says front.state p → n ≡ length text - length rest → IsFront text p n
IsFront-read text rest front p n read behind says bytes =
    let same : length rest ≡ length (after_lines front.line text) = ap (λ (r : List ℕ). length r) behind in
    record { front = front; read = read; says = says; bytes = omega (arith, bytes, same, after_short front.line text) }

pub alone_fault : (text rest : List ℕ) (front : Front) (number : ℕ) → front_of text ≡ Ok front → rest ≡ after_lines front.line text → Some number ≡ first_said (front.line + 1) (lines_of rest) →
    alone_of text ≡ unless_more (Some number) front
alone_fault text rest front number read behind said =
    ap (alone text) read ∙ ap (λ (r : List ℕ). unless_more (first_said (front.line + 1) (lines_of r)) front) (sym behind) ∙ ap (λ (o : Option ℕ). unless_more o front) (sym said)

pub IsTextOf-read : (text rest : List ℕ) (front : Front) (p : Problem) → front_of text ≡ Ok front → rest ≡ after_lines front.line text → None ≡ first_said (front.line + 1) (lines_of rest) → Says front.state p → IsTextOf p text
IsTextOf-read text rest front p read behind said says = record {
  front = front;
  read = ap (alone text) read ∙ ap (λ (r : List ℕ). unless_more (first_said (front.line + 1) (lines_of r)) front) (sym behind) ∙ ap (λ (o : Option ℕ). unless_more o front) (sym said);
  says = says;
}
