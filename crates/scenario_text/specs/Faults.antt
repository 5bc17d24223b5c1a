-- The first fault of a text, in other words than those of reading.
use Rattle.std.specs.Prelude.{ℕ, ◌≡◌, ◌+◌, ◌⊎◌, false, true, List, ◌∷◌, ◌++◌, length, All, Ok}
use Rattle.std.specs.List.{list_all}
use Rattle.scenario_text.specs.declared.kind.TextKind.TheVariants.{Rest}
use Rattle.scenario_text.specs.declared.kind.TextFault.{TextFault}
use Rattle.text_rows.specs.Lines.{lines_of, after_lines}
use Rattle.text_rows.specs.Fields.{is_blank}
use Rattle.text_rows.specs.LineMachine.{IsFaultFrom}
use Rattle.scenario_text.specs.State.{blank_state}
use Rattle.scenario_text.specs.Reading.{Front, scenario_lines, front_of}

-- a line up to the line `end` is wrong, or none is `end`
abbrev pub IsFirstFault : List ℕ → TextFault → Type 0
IsFirstFault text fault = IsFaultFrom scenario_lines blank_state 1 (lines_of text) fault

-- the text reads up to its line `end`, and this is the first line behind that holds a byte other than blanks
pub record IsRest (text : List ℕ) (fault : TextFault) : Type 0 where
  pub front : Front
  pub reads : front_of text ≡ Ok front
  pub silent : List (List ℕ)
  pub said : List ℕ
  pub more : List (List ℕ)
  pub behind : lines_of (after_lines front.line text) ≡ silent ++ said ∷ more
  pub blank : All (λ line. list_all is_blank line ≡ true) silent
  pub speaks : list_all is_blank said ≡ false
  pub kind : fault.kind ≡ Rest
  pub line : fault.line ≡ front.line + 1 + length silent

-- the first fault of a text that ends with its line `end`
abbrev pub IsFirstFaultAlone : List ℕ → TextFault → Type 0
IsFirstFaultAlone text fault = IsFirstFault text fault ⊎ IsRest text fault
