-- What a feed keeps of the bytes that it was fed, and what a byte more makes of it.
use Rattle.std.specs.Prelude.{ℕ, ◌+◌, ◌≤◌, ◌==◌, if◌then◌else◌, List, [], Result, Ok, Err}
use Rattle.search_model.specs.declared.standing.Standing.{Standing}
use Rattle.search_model.specs.Problem.{Problem}
use Rattle.bound_tree.specs.declared.gap.GapPlan.{GapPlan}
use Rattle.tree_format.specs.declared.kind.PlanKind.{PlanKind}
use Rattle.tree_format.specs.declared.kind.PlanKind.TheVariants.{Rest}
use Rattle.tree_format.specs.declared.due.Due.{Due}
use Rattle.tree_format.specs.declared.plan_line.Stage.{Stage}
use Rattle.tree_format.specs.declared.plan_line.Stage.TheVariants as due
use Rattle.tree_format.specs.declared.plan_line.PlanLine.{PlanLine}
use Rattle.tree_format.specs.declared.plan_line.PlanLine.TheVariants.{Version, Path, Chance, Ceiling, Count, Node, End}
use Rattle.tree_format.specs.declared.plan_item.PlanItem.TheVariants as item
use Rattle.tree_format.specs.declared.plan_item.Step.{Step}
use Rattle.tree_format.specs.declared.plan_item.Step.TheVariants.{More, Item, Fault}
use Rattle.tree_format.specs.Dialects.{numbers_in}
use Rattle.text_rows.specs.Fields.{exact_fields}
use Rattle.tree_format.specs.Gathering.{Gathered, nothing_gathered, gathered, with_byte}
use Rattle.tree_format.specs.Reading.{line_at, next, taken, is_ended, at_line_number}

-- the line that is due and its number, the standing, the weight and the ceiling where their lines were read, and the front of
-- the line
pub record Stand : Type 0 where
  pub number : ℕ
  pub due : Due
  pub standing : Standing
  pub weight : ℕ
  pub ceiling : ℕ
  pub line : Gathered

-- where a plan was read up to this line, whose first bytes these are
abbrev pub stand_at : ℕ → Due → GapPlan → List ℕ → Stand
stand_at number d plan begun = record { number = number; due = d; standing = plan.standing; weight = plan.weight; ceiling = plan.ceiling; line = gathered nothing_gathered begun }

-- the head of a plan, as far as it was read
abbrev pub head_of : Stand → GapPlan
head_of s = record { standing = s.standing; weight = s.weight; ceiling = s.ceiling; numbers = numbers_in s.due.dialect; nodes = [] }

-- at the end of a line that says this
abbrev pub moved : Problem → Stand → PlanLine → Stand
moved p s said = record {
  number = s.number + 1;
  due = next p s.due said;
  standing = (taken (head_of s) said).standing;
  weight = (taken (head_of s) said).weight;
  ceiling = (taken (head_of s) said).ceiling;
  line = nothing_gathered;
}

-- what such a line tells
abbrev pub step_of : Stand → PlanLine → Step
step_of s (Version v) = More
step_of s (Path q) = More
step_of s (Chance v w) = More
step_of s (Ceiling n) = More
step_of s (Count n) = Item (item.Head s.standing s.weight s.ceiling (numbers_in s.due.dialect) n)
step_of s (Node r) = Item (item.Node r)
step_of s End = Item item.End

-- what bytes brought, and what is kept of them
pub record Moved : Type 0 where
  pub step : Step
  pub stand : Stand

-- at the end of a line, which was judged so
abbrev pub line_ended : Problem → Stand → Result PlanLine PlanKind → Moved
line_ended p s (Ok said) = record { step = step_of s said; stand = moved p s said }
line_ended p s (Err kind) = record { step = Fault (at_line_number s.number kind); stand = s }

-- a byte of the line more
abbrev pub line_begun : ℕ → Stand → Moved
line_begun c s = record { step = More; stand = record { number = s.number; due = s.due; standing = s.standing; weight = s.weight; ceiling = s.ceiling; line = with_byte c s.line } }

-- a byte more
abbrev pub byte_fed : Problem → ℕ → Stand → Moved
byte_fed p c s =
    if is_ended s.due.stage then record { step = Fault (at_line_number s.number Rest); stand = s } else
    (if c == 10 then line_ended p s (line_at p s.due (exact_fields s.line.text)) else line_begun c s)

-- the most lines that are left, of which the announced records are at most 4,194,305
abbrev pub lines_left : Stage → ℕ
lines_left (due.Version family) = 4194311
lines_left due.Path = 4194310
lines_left due.Chance = 4194309
lines_left due.Ceiling = 4194308
lines_left due.Count = 4194307
lines_left (due.Records left) = left + 1
lines_left due.Ended = 0

-- so a line's number is small
abbrev pub IsNumbered : Stage → ℕ → Type 0
IsNumbered stage number = number + lines_left stage ≤ 4194312
