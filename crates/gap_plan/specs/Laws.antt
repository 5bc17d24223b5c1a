-- What gap plans say of scenarios that are the same search.
use Rattle.search_model.specs.Problem.{Problem, IsProblem}
use Rattle.search_model.specs.Same.{AreSame}
use Rattle.bound_tree.specs.declared.gap.GapPlan.{GapPlan}
use Rattle.bound_tree.specs.Gaps.{GapAccepts}

-- a gap plan that is accepted for one is accepted for the other
abbrev pub SameGapAccepts : Type 0
SameGapAccepts = (p o : Problem) (plan : GapPlan) → IsProblem p → AreSame p o → GapAccepts p plan → GapAccepts o plan
