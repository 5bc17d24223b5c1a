-- One line after the other, as a loop takes them.
use Rattle.std.proofs.Common.{◌≡◌, ℕ, ◌+◌, ◌-◌, true, false, List, [], ◌∷◌, length, None, Some, Err, refl, sym, ap, ◌∙◌, arith}
use Rattle.std.specs.List.{list_all}
use Rattle.scenario_text.specs.declared.kind.TextKind.TheVariants.{EarlyEnd}
use Rattle.scenario_text.specs.declared.draft.Draft.{Draft}
use Rattle.scenario_text.specs.declared.stop.LineStop.{LineStop}
use Rattle.scenario_text.specs.declared.stop.LineStop.TheVariants as line_stops
use Rattle.text_rows.specs.Lines.{lines_of, after_lines}
use Rattle.text_rows.specs.Fields.{is_blank}
use Rattle.text_rows.specs.LineMachine.{read_from}
use Rattle.scenario_text.specs.Gives.{TakesLine, ReadsDraft, stop_at}
use Rattle.scenario_text.specs.State.{State}
use Rattle.scenario_text.specs.Reading.{line_at, scenario_lines, front_of, first_said}
use Rattle.text_rows.proofs.LineCuts.{lines_of-nil, after_next}
use Rattle.text_rows.proofs.LineMachine.{at_early, at_fault}

no_lines : (text : List ℕ) → length text ≡ 0 → lines_of text ≡ []
no_lines [] e = lines_of-nil
no_lines (c ∷ cs) e = absurd (omega arith)

-- the text ends early
pub at_end : (s : State) (number : ℕ) (text : List ℕ) → length text ≡ 0 → read_from scenario_lines s number (lines_of text) ≡ Err (record { line = number; kind = EarlyEnd })
at_end s number text e = at_early scenario_lines s number (lines_of text) (no_lines text e)

pub at_stop : (s : State) (number : ℕ) (new : Draft) (line : List ℕ) (lines ls : List (List ℕ)) (stop : LineStop) (text : List ℕ) (draft : Draft) → ls ≡ line ∷ lines → TakesLine new (Err stop) (line_at s line) → read_from scenario_lines s number ls ≡ front_of text → ReadsDraft text draft (Err (stop_at number stop))
at_stop s number new line lines ls (line_stops.Fault kind) text draft e f so_far = sym so_far ∙ at_fault scenario_lines s number line lines ls kind e f
at_stop s number new line lines ls line_stops.NoMemory text draft e f so_far = tt

-- what follows the line feed of the line of this number
pub after_going_on : (number : ℕ) (text after : List ℕ) → after ≡ after_lines number text → after ≡ after_lines (number + 1 - 1) text
after_going_on number text after here = let same : number ≡ number + 1 - 1 = omega arith in here ∙ ap (λ (k : ℕ). after_lines k text) same

-- The first line that says something.

pub said_next : (number : ℕ) (line : List ℕ) (lines ls : List (List ℕ)) → ls ≡ line ∷ lines → list_all is_blank line ≡ true → first_said number ls ≡ first_said (number + 1) lines
unfolding first_said
said_next number line lines ls e blank = rw (e, blank) refl

pub said_here : (number : ℕ) (line : List ℕ) (lines ls : List (List ℕ)) → ls ≡ line ∷ lines → list_all is_blank line ≡ false → first_said number ls ≡ Some number
unfolding first_said
said_here number line lines ls e said = rw (e, said) refl

pub said_nowhere : (number : ℕ) (text : List ℕ) → length text ≡ 0 → first_said number (lines_of text) ≡ None
unfolding first_said
said_nowhere number text e = rw (no_lines text e) refl

pub ruleset loop_steps = (at_stop, at_end, after_next, after_going_on)

pub ruleset said_steps = (said_next, said_here, said_nowhere)
