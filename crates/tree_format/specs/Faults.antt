-- The first fault of a text, in other words than those of reading.
use Rattle.std.specs.Prelude.{ℕ, ◌≡◌, ◌+◌, ◌⊎◌, List, [], Ok}
use Rattle.search_model.specs.Problem.{Problem}
use Rattle.tree_format.specs.declared.kind.PlanKind.TheVariants.{Rest}
use Rattle.tree_format.specs.declared.kind.PlanFault.{PlanFault}
use Rattle.tree_format.specs.declared.plan_line.Family.{Family}
use Rattle.text_rows.specs.Lines.{after_lines}
use Rattle.text_rows.specs.LineMachine.{Reached, IsFaultFrom}
use Rattle.text_rows.specs.WholeLines.{whole_lines}
use Rattle.tree_format.specs.Reading.{at_line_number, Progress, unread, plan_lines, front_of}

-- the text reads up to its line `end`, and bytes follow the line feed of that line
pub record IsRest (family : Family) (p : Problem) (text : List ℕ) (fault : PlanFault) : Type 0 where
  pub front : Reached Progress
  pub reads : front_of family p text ≡ Ok front
  pub some : after_lines front.line text ≡ [] → ⊥
  pub is : fault ≡ at_line_number (front.line + 1) Rest

-- a line up to the line `end` is wrong, or lacks its line feed, or bytes stand behind that line
abbrev pub IsFirstFault : Family → Problem → List ℕ → PlanFault → Type 0
IsFirstFault family p text fault = IsFaultFrom (plan_lines p) (unread family) 1 (whole_lines text) fault ⊎ IsRest family p text fault
