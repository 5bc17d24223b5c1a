-- What the ceiling of a gap plan says.
use Rattle.std.specs.Prelude.{ℕ, ◌+◌, ◌*◌, ◌≤◌, ◌≡◌, ◌↔◌, List}
use Rattle.search_model.specs.Problem.{Problem, IsProblem}
use Rattle.search_model.specs.Legal.{IsPath}
use Rattle.search_model.specs.Tracks.{value_of, whole_weight}
use Rattle.search_model.specs.Order.{IsBest}
use Rattle.bound_tree.specs.declared.plan.Plan.{Plan}
use Rattle.bound_tree.specs.declared.gap.Numbers.{Numbers}
use Rattle.bound_tree.specs.declared.gap.Numbers.TheVariants.{Edges}
use Rattle.bound_tree.specs.declared.gap.GapPlan.{GapPlan}
use Rattle.bound_tree.specs.Accepts.{Extends, Accepts}
use Rattle.bound_tree.specs.Gaps.{ceiling_of, GapAccepts, NoneWaits, plan_of, gap_of}

-- no path that extends a prefix finds more than the ceiling of the prefix
abbrev pub PrefixCeilingIsAbove : Type 0
PrefixCeilingIsAbove = (numbers : Numbers) (p : Problem) (q y : List ℕ) → IsProblem p → Extends p q y → value_of p y ≤ ceiling_of numbers p q

-- no path finds more than the ceiling of an accepted gap plan
abbrev pub CeilingIsAbove : Type 0
CeilingIsAbove = (p : Problem) (plan : GapPlan) (y : List ℕ) → IsProblem p → GapAccepts p plan → IsPath p y → value_of p y ≤ plan.ceiling

-- the ceiling of an accepted gap plan is at least its value, and at most the whole weight, once for each period and once more
abbrev pub CeilingSize : Type 0
CeilingSize = (p : Problem) (plan : GapPlan) → IsProblem p → GapAccepts p plan → (plan.standing.value ≤ plan.ceiling) × (plan.ceiling ≤ (p.horizon + 1) * whole_weight p)

-- with edge bounds it is at most the whole weight
abbrev pub EdgeCeilingSize : Type 0
EdgeCeilingSize = (p : Problem) (plan : GapPlan) → plan.numbers ≡ Edges → GapAccepts p plan → plan.ceiling ≤ whole_weight p

-- a gap plan in which no node waits is accepted where the plan of its records is, and its ceiling is its value
abbrev pub GapOfNoneWaiting : Type 0
GapOfNoneWaiting = (p : Problem) (plan : GapPlan) → NoneWaits plan.nodes → GapAccepts p plan ↔ (Accepts p (plan_of plan) × (plan.ceiling ≡ plan.standing.value))

-- and its path is then the best
abbrev pub NoneWaitingIsBest : Type 0
NoneWaitingIsBest = (p : Problem) (plan : GapPlan) → IsProblem p → NoneWaits plan.nodes → GapAccepts p plan → IsBest p plan.standing.path

-- a plan is accepted where it is as a gap plan of either numbers
abbrev pub PlanIsGapPlan : Type 0
PlanIsGapPlan = (numbers : Numbers) (p : Problem) (plan : Plan) → Accepts p plan ↔ GapAccepts p (gap_of numbers plan)

-- where the ceiling of an accepted gap plan is its value, no path finds more than its path, also where nodes wait
abbrev pub MetCeilingIsBest : Type 0
MetCeilingIsBest =
    (p : Problem) (plan : GapPlan) (y : List ℕ) → IsProblem p → GapAccepts p plan → plan.ceiling ≡ plan.standing.value → IsPath p y →
    value_of p y ≤ value_of p plan.standing.path
