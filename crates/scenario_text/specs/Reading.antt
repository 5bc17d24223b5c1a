-- Reading line by line: what a line adds to what has been read, or its first fault.
use Rattle.std.specs.Prelude.{ℕ, ◌+◌, Bool, true, false, if◌then◌else◌, List, [], ◌∷◌, Option, Some, None, Result, Ok, Err}
use Rattle.std.specs.List.{list_all}
use Rattle.scenario_text.specs.declared.draft.Stage.{Stage}
use Rattle.scenario_text.specs.declared.draft.Stage.TheVariants.{Ended}
use Rattle.scenario_text.specs.declared.kind.TextKind.{TextKind}
use Rattle.scenario_text.specs.declared.kind.TextKind.TheVariants.{EarlyEnd, Rest}
use Rattle.scenario_text.specs.declared.kind.TextFault.{TextFault}
use Rattle.text_rows.specs.Lines.{lines_of, after_lines}
use Rattle.text_rows.specs.Fields.{fields_of, is_blank, behind_first}
use Rattle.text_rows.specs.LineMachine.{LineMachine, Reached, read_from}
use Rattle.scenario_text.specs.Fields.{says_nothing}
use Rattle.scenario_text.specs.State.{State, blank_state}
use Rattle.scenario_text.specs.KindTable.{line_of, tests_of}
use Rattle.scenario_text.specs.Grammar.{added, unless_any}

-- a line that says nothing adds nothing; else the first kind of the table whose test holds, or else what the line adds
unfoldable pub line_at : State → List ℕ → Result State TextKind
line_at s line =
    if says_nothing (fields_of line) then Ok s else
    unless_any (tests_of s line) (added (line_of s (fields_of line)) s (behind_first (fields_of line)))

-- the line `end` was read
abbrev pub is_ended : Stage → Bool
is_ended Ended = true
is_ended _ = false

-- how the lines of a scenario are read
abbrev pub scenario_lines : LineMachine State TextKind TextFault
scenario_lines = record { step = line_at; ended = λ s. is_ended s.stage; early = EarlyEnd; fault = λ number kind. record { line = number; kind = kind } }

-- what was read up to a line `end`, and the number of that line
abbrev pub Front : Type 0
Front = Reached State

-- what a text says up to its line `end`
abbrev pub front_of : List ℕ → Result Front TextFault
front_of text = read_from scenario_lines blank_state 1 (lines_of text)

-- the first of some lines that holds a byte other than blanks, the first of them having this number
unfoldable pub first_said : ℕ → List (List ℕ) → Option ℕ
first_said number [] = None
first_said number (line ∷ lines) = if list_all is_blank line then first_said (number + 1) lines else Some number

-- behind the line `end` nothing may be said
abbrev pub unless_more : Option ℕ → Front → Result Front TextFault
unless_more (Some number) front = Err (record { line = number; kind = Rest })
unless_more None front = Ok front

abbrev pub alone : List ℕ → Result Front TextFault → Result Front TextFault
alone text (Err fault) = Err fault
alone text (Ok front) = unless_more (first_said (front.line + 1) (lines_of (after_lines front.line text))) front

-- what a text says that ends with its line `end`
abbrev pub alone_of : List ℕ → Result Front TextFault
alone_of text = alone text (front_of text)
