use Rattle.exact_parts.proofs.AppendLemmas.{stands_first, stands_next, stands_last, at_refusal}
use Rattle.exact_parts.proofs.Beginnings.{begins_after}
use Rattle.tree_format.specs.Dialects.{numbers_in}
use Rattle.tree_format.proofs.LineTexts.{plan_parts}
use Rattle.tree_format.proofs.printing.push_plan.Goals as goal

pub returns-clause-ok : goal.returns-clause-ok
returns-clause-ok c =
    let head = stands_next _ _ (stands_first (plan_parts c.args.dialect c.args.sc.now (numbers_in c.args.dialect) c.args.plan.now)) (rw c.nodes-records.ensures at c.in_ok-push_head.ensures.ok) in
    let records = stands_next _ _ head (rw c.nodes-records.ensures at c.in_ok-push_records.ensures.ok) in
    stands_last records c.in_ok-push_row.ensures.ok

pub returns-in_err-push_head-clause-err : goal.returns-in_err-push_head-clause-err
returns-in_err-push_head-clause-err c = at_refusal _ _ c.in_err-push_head.ensures.err

pub returns-in_err-push_records-clause-err : goal.returns-in_err-push_records-clause-err
returns-in_err-push_records-clause-err c = at_refusal _ _ (begins_after _ _ _ _ c.in_ok-push_head.ensures.ok c.in_err-push_records.ensures.err)

pub returns-in_err-push_row-clause-err : goal.returns-in_err-push_row-clause-err
returns-in_err-push_row-clause-err c = at_refusal _ _ (begins_after _ _ _ _ c.in_ok-push_head.ensures.ok (begins_after _ _ _ _ c.in_ok-push_records.ensures.ok c.in_err-push_row.ensures.err))
