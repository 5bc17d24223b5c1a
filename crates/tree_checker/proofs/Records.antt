-- The first reason against a plan, told record by record.
use Rattle.std.proofs.Common.{◌≡◌, ℕ, ◌+◌, Bool, List, [], ◌∷◌, ◌++◌, map, Option, Some, None, refl, sym, ap, ◌∙◌, eq-eqb, if◌then◌else◌}
use Rattle.std.specs.Option.{option_or, option_map}
use Rattle.std.proofs.lemmas.List.{map-append}
use Rattle.search_model.specs.declared.standing.Standing.{Standing}
use Rattle.search_model.specs.Problem.{Problem}
use Rattle.search_model.specs.Bounds.{greatest}
use Rattle.search_model.proofs.Greatest.{greatest-one}
use Rattle.list_laws.proofs.Joined.{or_none}
use Rattle.bound_tree.specs.declared.node.TreeNode.{TreeNode}
use Rattle.bound_tree.specs.declared.plan.Plan.{Plan}
use Rattle.bound_tree.specs.declared.gap.Numbers.{Numbers}
use Rattle.bound_tree.specs.declared.gap.Numbers.TheVariants.{Means}
use Rattle.bound_tree.specs.Accepts.{expected_by}
use Rattle.bound_tree.specs.Gaps.{open_numbers, closed_node, gap_of}
use Rattle.bound_tree.proofs.Ceilings.{none_of_closed}
use Rattle.tree_checker.specs.declared.verdict.Why.{Why}
use Rattle.tree_checker.specs.declared.verdict.RejectAt.{RejectAt}
use Rattle.tree_checker.specs.declared.gap_verdict.GapWhy.{GapWhy}
use Rattle.tree_checker.specs.declared.gap_verdict.GapWhy.TheVariants.{Plain, CeilingWrong}
use Rattle.tree_checker.specs.declared.gap_verdict.GapRejectAt.{GapRejectAt}
use Rattle.tree_checker.specs.Reasons.{Test, first_failed, path_tests, value_tests, kind_tests, place_tests, plain_test, node_tests, at_line, head_reason, nodes_reason, ceiling_reason, reason_from, as_plain}
use Rattle.tree_checker.specs.Records.{record_tests, stands_at, tree_reason, reason_by_records, ReasonByRecords, as_gap, ReasonIsPlain}
use Rattle.tree_checker.proofs.Reason.{plain_first}

-- the first of two is told as one of a gap plan is
or_told : (first later : Option RejectAt) → option_or (option_map as_gap first) (option_map as_gap later) ≡ option_map as_gap (option_or first later)
or_told None later = refl
or_told (Some r) later = refl

line_told : (line : ℕ) (w : Option Why) → at_line line (option_map (λ v. Plain v) w) ≡ option_map as_gap (stands_at line w)
line_told line None = refl
line_told line (Some w) = refl

-- the first of some tests that fails, at its line
tests_told : (line : ℕ) (ts : List Test) → at_line line (first_failed (map plain_test ts)) ≡ option_map as_gap (stands_at line (first_failed ts))
tests_told line ts = ap (at_line line) (plain_first ts) ∙ line_told line (first_failed ts)

module _ (numbers : Numbers) (p : Problem) (s : Standing) where
  -- the tests of a closed node are those of its record
  record_told : (line : ℕ) (r : TreeNode) (q : List ℕ) → at_line line (first_failed (node_tests numbers p s q (closed_node r))) ≡ option_map as_gap (stands_at line (first_failed (record_tests p s q r)))
  record_told line r q =
      ap (λ (ts : List (Bool × GapWhy)). at_line line (first_failed ts)) (sym (map-append plain_test (place_tests q r.prefix) (kind_tests p s q r.kind)))
      ∙ tests_told line (record_tests p s q r)

  records_told : (line : ℕ) (rs : List TreeNode) (qs : List (List ℕ)) → nodes_reason numbers p s line (map closed_node rs) qs ≡ option_map as_gap (tree_reason p s line rs qs)
  records_told line [] [] = refl
  records_told line [] (q ∷ qs) = refl
  records_told line (r ∷ rs) [] = refl
  records_told line (r ∷ rs) (q ∷ qs) =
      let first = stands_at line (first_failed (record_tests p s q r)) in
      let later = tree_reason p s (line + 1) rs (expected_by p q r.kind ++ qs) in
      let rest = nodes_reason numbers p s (line + 1) (map closed_node rs) (expected_by p q r.kind ++ qs) in
      ap (λ (o : Option GapRejectAt). option_or o rest) (record_told line r q)
      ∙ ap (option_or (option_map as_gap first)) (records_told (line + 1) rs (expected_by p q r.kind ++ qs))
      ∙ or_told first later

  head_told : (weight : ℕ) → head_reason p s weight ≡ option_map as_gap (option_or (stands_at 2 (first_failed (path_tests p s.path))) (stands_at 3 (first_failed (value_tests p s weight))))
  head_told weight =
      let path = stands_at 2 (first_failed (path_tests p s.path)) in
      let values = stands_at 3 (first_failed (value_tests p s weight)) in
      ap (λ (o : Option GapRejectAt). option_or o (at_line 3 (first_failed (map plain_test (value_tests p s weight))))) (tests_told 2 (path_tests p s.path))
      ∙ ap (option_or (option_map as_gap path)) (tests_told 3 (value_tests p s weight))
      ∙ or_told path values

-- a plan's value is the ceiling of its gap plan
ceiling_met : (v : ℕ) (rs : List TreeNode) → ceiling_reason v (v ∷ open_numbers (map closed_node rs)) ≡ None
ceiling_met v rs =
    let most : greatest (v ∷ open_numbers (map closed_node rs)) ≡ v = ap (λ (ns : List ℕ). greatest (v ∷ ns)) (none_of_closed rs) ∙ greatest-one v in
    ap (λ (b : Bool). at_line 4 (if b then None else Some CeilingWrong)) (eq-eqb v (greatest (v ∷ open_numbers (map closed_node rs))) (sym most))

-- the first reason against a plan as a gap plan
told_by_records : (numbers : Numbers) (p : Problem) (plan : Plan) → reason_from 5 p (gap_of numbers plan) ≡ option_map as_gap (reason_by_records p plan)
told_by_records numbers p plan =
    let s : Standing = plan.standing in
    let head = option_or (stands_at 2 (first_failed (path_tests p s.path))) (stands_at 3 (first_failed (value_tests p s plan.weight))) in
    let records = tree_reason p s 5 plan.tree ([] ∷ []) in
    let nodes = nodes_reason numbers p s 5 (map closed_node plan.tree) ([] ∷ []) in
    let ceiling = ceiling_reason s.value (s.value ∷ open_numbers (map closed_node plan.tree)) in
    ap (λ (o : Option GapRejectAt). option_or o (option_or nodes ceiling)) (head_told numbers p s plan.weight)
    ∙ ap (option_or (option_map as_gap head)) (ap (option_or nodes) (ceiling_met s.value plan.tree) ∙ or_none nodes ∙ records_told numbers p s 5 plan.tree ([] ∷ []))
    ∙ or_told head records

-- and as one against a plan again
back : (o : Option RejectAt) → option_map as_plain (option_map as_gap o) ≡ o
back None = refl
back (Some r) = refl

pub reason_by_records_is : ReasonByRecords
reason_by_records_is p plan = ap (option_map as_plain) (told_by_records Means p plan) ∙ back (reason_by_records p plan)

pub reason_is_plain : ReasonIsPlain
reason_is_plain numbers p plan = told_by_records numbers p plan ∙ ap (option_map as_gap) (sym (reason_by_records_is p plan))
