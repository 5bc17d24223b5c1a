-- What the functions of the reader return, seen by what reading gives.
use Rattle.std.specs.Prelude.{◌≡◌, ℕ, true, false, List, Option, Some, None, Result, Ok, Err}
use Rattle.scenario_text.specs.declared.draft.Draft.{Draft}
use Rattle.scenario_text.specs.declared.kind.TextKind.{TextKind}
use Rattle.scenario_text.specs.declared.kind.TextFault.{TextFault}
use Rattle.scenario_text.specs.declared.pairs.Scan.{Scan}
use Rattle.scenario_text.specs.declared.reading.DraftEnd.{DraftEnd}
use Rattle.scenario_text.specs.declared.stop.LineStop.{LineStop}
use Rattle.scenario_text.specs.declared.stop.LineStop.TheVariants as line_stops
use Rattle.scenario_text.specs.declared.stop.TextStop.{TextStop}
use Rattle.scenario_text.specs.declared.stop.TextStop.TheVariants as text_stops
use Rattle.text_rows.specs.Lines.{after_lines}
use Rattle.scenario_text.specs.Fields.{are_even, are_pairs}
use Rattle.scenario_text.specs.ByCells.{pairs_of}
use Rattle.scenario_text.specs.Scanning.{HasSeen}
use Rattle.scenario_text.specs.Reading.{front_of}
use Rattle.scenario_text.specs.State.{State, state_of}
use Rattle.scenario_text.specs.Sound.{IsSound}

-- the line was taken as reading takes it, or has that fault, unless memory ran out
abbrev pub TakesLine : Draft → Result (Unit {0}) LineStop → Result State TextKind → Type 0
TakesLine new (Ok _) read = read ≡ Ok (state_of new)
TakesLine new (Err (line_stops.Fault kind)) read = read ≡ Err kind
TakesLine new (Err line_stops.NoMemory) read = Unit {0}

-- the pairs that these fields are, where they are pairs
abbrev pub Scans : List (List ℕ) → ℕ → List (List ℕ) → Option Scan → Type 0
Scans names least fields None = are_even fields ≡ false
Scans names least fields (Some pairs) = (are_even fields ≡ true) × HasSeen least (pairs_of names fields) pairs

-- where they are one pair or more
abbrev pub ScansSome : List (List ℕ) → List (List ℕ) → Option Scan → Type 0
ScansSome names fields None = are_pairs fields ≡ false
ScansSome names fields (Some pairs) = (are_pairs fields ≡ true) × HasSeen 1 (pairs_of names fields) pairs

-- the text was read into the draft up to its line `end`, or has that fault, unless memory ran out
abbrev pub ReadsDraft : List ℕ → Draft → Result DraftEnd TextStop → Type 0
ReadsDraft text draft (Ok end) =
    (front_of text ≡ Ok (record { state = state_of draft; line = end.line })) × IsSound (state_of draft) × (end.rest.now ≡ after_lines end.line text)
ReadsDraft text draft (Err (text_stops.Fault fault)) = front_of text ≡ Err fault
ReadsDraft text draft (Err text_stops.NoMemory) = Unit {0}

-- the stop of a line of that number
abbrev pub stop_at : ℕ → LineStop → TextStop
stop_at number (line_stops.Fault kind) = text_stops.Fault (record { line = number; kind = kind })
stop_at number line_stops.NoMemory = text_stops.NoMemory

-- this was read, unless memory ran out
abbrev pub Answers : {X : Type 0} → Result X TextStop → X → Type 0
Answers (Ok read) x = read ≡ x
Answers (Err (text_stops.Fault fault)) x = ⊥
Answers (Err text_stops.NoMemory) x = Unit {0}

-- this fault was told, unless memory ran out
abbrev pub Tells : {X : Type 0} → Result X TextStop → TextFault → Type 0
Tells (Ok read) fault = ⊥
Tells (Err (text_stops.Fault told)) fault = told ≡ fault
Tells (Err text_stops.NoMemory) fault = Unit {0}

-- this holds of a fault that was told
abbrev pub IfFault : {X : Type 0} → Result X TextStop → (TextFault → Type 0) → Type 0
IfFault (Ok read) P = Unit {0}
IfFault (Err (text_stops.Fault told)) P = P told
IfFault (Err text_stops.NoMemory) P = Unit {0}
