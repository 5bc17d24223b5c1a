-- That the reasons against plans are all there are.
use Rattle.std.specs.Prelude.{ℕ, ◌≡◌, Some, None, ◌↔◌}
use Rattle.search_model.specs.Problem.{Problem}
use Rattle.search_model.specs.Bounds.{IsRate}
use Rattle.bound_tree.specs.declared.plan.Plan.{Plan}
use Rattle.bound_tree.specs.declared.gap.GapPlan.{GapPlan}
use Rattle.bound_tree.specs.Accepts.{Accepts}
use Rattle.bound_tree.specs.Gaps.{GapAccepts}
use Rattle.tree_checker.specs.Rate.{one_rate_of}
use Rattle.tree_checker.specs.Reasons.{first_reason}
use Rattle.tree_checker.specs.GapReasons.{gap_reason}

-- a plan is accepted exactly where there is no reason against it
abbrev pub AcceptedWithNoReason : Type 0
AcceptedWithNoReason = (p : Problem) (plan : Plan) → (first_reason p plan ≡ None) ↔ Accepts p plan

-- and so is a gap plan
abbrev pub GapAcceptedWithNoReason : Type 0
GapAcceptedWithNoReason = (p : Problem) (plan : GapPlan) → (gap_reason p plan ≡ None) ↔ GapAccepts p plan

-- the rate that is found is the one rate, and where none is found there is none
abbrev pub FindsOneRate : Type 0
FindsOneRate = (p : Problem) (rate : ℕ) → (one_rate_of p ≡ Some rate) ↔ IsRate p rate
