-- The first reason against a plan, told record by record.
use Rattle.std.specs.Prelude.{ℕ, ◌≡◌, ◌+◌, List, [], ◌∷◌, ◌++◌, Option, Some, None}
use Rattle.std.specs.Option.{option_or, option_map}
use Rattle.search_model.specs.declared.standing.Standing.{Standing}
use Rattle.search_model.specs.Problem.{Problem}
use Rattle.bound_tree.specs.declared.node.TreeNode.{TreeNode}
use Rattle.bound_tree.specs.declared.plan.Plan.{Plan}
use Rattle.bound_tree.specs.declared.gap.Numbers.{Numbers}
use Rattle.bound_tree.specs.Accepts.{expected_by}
use Rattle.bound_tree.specs.Gaps.{gap_of}
use Rattle.tree_checker.specs.declared.verdict.Why.{Why}
use Rattle.tree_checker.specs.declared.verdict.Why.TheVariants.{NotChild, MissingChild}
use Rattle.tree_checker.specs.declared.verdict.RejectAt.{RejectAt}
use Rattle.tree_checker.specs.declared.gap_verdict.GapWhy.TheVariants.{Plain}
use Rattle.tree_checker.specs.declared.gap_verdict.GapRejectAt.{GapRejectAt}
use Rattle.tree_checker.specs.Reasons.{Test, first_failed, path_tests, value_tests, kind_tests, place_tests, reason_from, first_reason}

-- the tests of a record where prefix q is expected
abbrev pub record_tests : Problem → Standing → List ℕ → TreeNode → List Test
record_tests p s q r = place_tests q r.prefix ++ kind_tests p s q r.kind

-- a reason against a plan stands at a line
abbrev pub stands_at : ℕ → Option Why → Option RejectAt
stands_at line None = None
stands_at line (Some w) = Some (record { line = line; why = w })

-- the first reason of the records from a line on, and of the line of `end`, where these prefixes are expected
abbrev pub tree_reason : Problem → Standing → ℕ → List TreeNode → List (List ℕ) → Option RejectAt
tree_reason p s line [] [] = None
tree_reason p s line [] (q ∷ qs) = Some (record { line = line; why = MissingChild })
tree_reason p s line (r ∷ rs) [] = Some (record { line = line; why = NotChild })
tree_reason p s line (r ∷ rs) (q ∷ qs) =
    option_or (stands_at line (first_failed (record_tests p s q r))) (tree_reason p s (line + 1) rs (expected_by p q r.kind ++ qs))

-- the first reason of the path line, of the line after it, and of the records from line 5 on
abbrev pub reason_by_records : Problem → Plan → Option RejectAt
reason_by_records p plan =
    option_or (option_or (stands_at 2 (first_failed (path_tests p plan.standing.path))) (stands_at 3 (first_failed (value_tests p plan.standing plan.weight))))
    (tree_reason p plan.standing 5 plan.tree ([] ∷ []))

-- the first reason against a plan is that
abbrev pub ReasonByRecords : Type 0
ReasonByRecords = (p : Problem) (plan : Plan) → first_reason p plan ≡ reason_by_records p plan

-- a reason against a plan as one against a gap plan
abbrev pub as_gap : RejectAt → GapRejectAt
as_gap r = record { line = r.line; why = Plain r.why }

-- against a plan as a gap plan of either numbers there is no other reason
abbrev pub ReasonIsPlain : Type 0
ReasonIsPlain = (numbers : Numbers) (p : Problem) (plan : Plan) → reason_from 5 p (gap_of numbers plan) ≡ option_map as_gap (first_reason p plan)
