-- What holds of reading the text of a scenario.
use Rattle.std.specs.Prelude.{ℕ, ◌≡◌, ◌↔◌, true, List, map, Ok, Err}
use Rattle.std.specs.List.Sorted.{IsStrictlyIncreasing}
use Rattle.scenario_text.specs.declared.kind.TextFault.{TextFault}
use Rattle.text_rows.specs.Fields.{fields_of}
use Rattle.scenario_text.specs.Fields.{says_nothing}
use Rattle.scenario_text.specs.State.{State}
use Rattle.scenario_text.specs.Kinds.{number_of}
use Rattle.scenario_text.specs.KindTable.{tests_of}
use Rattle.scenario_text.specs.Reading.{line_at, front_of, alone_of}
use Rattle.scenario_text.specs.Faults.{IsFirstFault, IsFirstFaultAlone}

-- a line of blanks alone and a comment add nothing, wherever they stand
abbrev pub SilentLinesAddNothing : Type 0
SilentLinesAddNothing = (s : State) (line : List ℕ) → says_nothing (fields_of line) ≡ true → line_at s line ≡ Ok s

-- the kinds that are asked of a line are asked in the order of the format
abbrev pub KindsInOrder : Type 0
KindsInOrder = (s : State) (line : List ℕ) → IsStrictlyIncreasing (map (λ test. number_of test.1) (tests_of s line))

-- the fault that reading gives is the first one
abbrev pub FirstFaultDecides : Type 0
FirstFaultDecides = (text : List ℕ) (fault : TextFault) → (front_of text ≡ Err fault) ↔ IsFirstFault text fault

-- the same of a text that ends with its line `end`: behind that line the first one that says anything is the fault
abbrev pub FirstFaultDecidesAlone : Type 0
FirstFaultDecidesAlone = (text : List ℕ) (fault : TextFault) → (alone_of text ≡ Err fault) ↔ IsFirstFaultAlone text fault
