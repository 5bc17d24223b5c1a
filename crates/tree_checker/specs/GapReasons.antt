-- The first reason against a gap plan.
use Rattle.std.specs.Prelude.{Option, Some, None}
use Rattle.search_model.specs.Problem.{Problem}
use Rattle.bound_tree.specs.declared.gap.GapPlan.{GapPlan}
use Rattle.tree_checker.specs.declared.verdict.Verdict.{Verdict}
use Rattle.tree_checker.specs.declared.verdict.Verdict.TheVariants as verdicts
use Rattle.tree_checker.specs.declared.gap_verdict.GapRejectAt.{GapRejectAt}
use Rattle.tree_checker.specs.declared.gap_verdict.GapVerdict.{GapVerdict}
use Rattle.tree_checker.specs.declared.gap_verdict.GapVerdict.TheVariants.{Accepted, Rejected}
use Rattle.tree_checker.specs.Reasons.{reason_from, as_plain}

-- the first node of a gap plan stands at line 6, behind its ceiling
abbrev pub gap_reason : Problem → GapPlan → Option GapRejectAt
gap_reason p plan = reason_from 6 p plan

-- what is said of a gap plan with this first reason
abbrev pub gap_verdict_of : Option GapRejectAt → GapVerdict
gap_verdict_of None = Accepted
gap_verdict_of (Some r) = Rejected r

-- a verdict as one on a plan
abbrev pub plain_verdict : GapVerdict → Verdict
plain_verdict Accepted = verdicts.Accepted
plain_verdict (Rejected r) = verdicts.Rejected (as_plain r)
