-- The path of an accepted plan.
use Rattle.search_model.specs.Problem.{Problem, IsProblem}
use Rattle.search_model.specs.Order.{IsBest}
use Rattle.bound_tree.specs.declared.plan.Plan.{Plan}
use Rattle.bound_tree.specs.Accepts.{Accepts}

-- the path of an accepted plan is the best
abbrev pub AcceptedIsBest : Type 0
AcceptedIsBest = (p : Problem) (plan : Plan) → IsProblem p → Accepts p plan → IsBest p plan.standing.path
