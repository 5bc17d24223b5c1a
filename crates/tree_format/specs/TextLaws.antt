-- How long the text of a plan can be, and which problems have the same texts.
use Rattle.std.specs.Prelude.{ℕ, ◌+◌, ◌*◌, ◌≤◌, List, length}
use Rattle.search_model.specs.Problem.{Problem, IsProblem}
use Rattle.search_model.specs.Same.{AreSame}
use Rattle.bound_tree.specs.declared.plan.Plan.{Plan}
use Rattle.bound_tree.specs.declared.gap.GapPlan.{GapPlan}
use Rattle.tree_format.specs.PlanText.{IsTextOfPlan, IsGapText}

-- a line of a record has at most 298 bytes, all other lines together at most 949
abbrev pub PlanTextIsShort : Type 0
PlanTextIsShort = (p : Problem) (plan : Plan) (text : List ℕ) → IsProblem p → IsTextOfPlan p plan text → length text ≤ 949 + length plan.tree * 298

-- a text of a plan is one for each problem that is the same search
abbrev pub SameSearchSameTexts : Type 0
SameSearchSameTexts = (p o : Problem) (plan : Plan) (text : List ℕ) → AreSame p o → IsTextOfPlan p plan text → IsTextOfPlan o plan text

-- and so is the text of a gap plan
abbrev pub SameSearchSameGapText : Type 0
SameSearchSameGapText = (p o : Problem) (plan : GapPlan) (text : List ℕ) → AreSame p o → IsGapText p plan text → IsGapText o plan text
