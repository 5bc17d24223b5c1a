-- What may stand behind a scenario: the text of a plan or that of a gap plan, by its family. A plan is seen here as the gap plan of
-- its records: no node waits, and the ceiling is the value.
use Rattle.std.specs.Prelude.{ℕ, ◌≡◌, List, Option}
use Rattle.search_model.specs.Problem.{Problem}
use Rattle.bound_tree.specs.declared.gap.Numbers.TheVariants.{Means}
use Rattle.bound_tree.specs.declared.gap.GapPlan.{GapPlan}
use Rattle.bound_tree.specs.Gaps.{plan_of, gap_of}
use Rattle.tree_format.specs.declared.plan_line.Family.{Family}
use Rattle.tree_format.specs.declared.plan_line.Family.TheVariants.{Plans, Gaps}
use Rattle.tree_format.specs.Dialects.{first_line}
use Rattle.tree_checker.specs.declared.gap_verdict.GapRejectAt.{GapRejectAt}
use Rattle.tree_checker.specs.Reasons.{reason_from}
use Rattle.plan_command.specs.Plans.{HasBehind, IsPlanRest, IsGapRest}

-- behind blanks and line feeds the rest is its text
abbrev pub IsRestOf : Family → Problem → List ℕ → GapPlan → Type 0
IsRestOf Plans p rest plan = IsPlanRest p rest (plan_of plan) × (gap_of Means (plan_of plan) ≡ plan)
IsRestOf Gaps p rest plan = IsGapRest p rest plan

-- the input is a scenario, and it behind that
abbrev pub IsInputOf : Family → List ℕ → Problem → GapPlan → Type 0
IsInputOf family input p plan = HasBehind (IsRestOf family) input p plan

-- the first reason against it
abbrev pub reason_against : Family → Problem → GapPlan → Option GapRejectAt
reason_against family p plan = reason_from (first_line family) p plan
