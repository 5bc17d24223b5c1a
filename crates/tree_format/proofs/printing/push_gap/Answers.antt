use Rattle.std.proofs.Common.{rules}
use Rattle.exact_parts.proofs.AppendLemmas.{stands_first, stands_next, stands_last, at_refusal}
use Rattle.exact_parts.proofs.Beginnings.{begins_after}
use Rattle.tree_format.proofs.LineTexts.{gap_parts}
use Rattle.tree_format.specs.Dialects.{dialect_with}
use Rattle.tree_format.proofs.printing.push_gap.Goals as goal

pub returns-clause-ok : goal.returns-clause-ok
returns-clause-ok c =
    let head = stands_next _ _ (stands_first (gap_parts (dialect_with c.args.plan.now.numbers) c.args.sc.now c.args.plan.now)) (rw (c.nodes-nodes.ensures, c.gap_dialect-dialect.ensures) at c.in_ok-push_head.ensures.ok) in
    let records = stands_next _ _ head (rw (c.nodes-nodes.ensures, c.gap_dialect-dialect.ensures) at c.in_ok-push_nodes.ensures.ok) in
    stands_last records c.in_ok-push_row.ensures.ok

pub returns-clause-narrow : goal.returns-clause-narrow
returns-clause-narrow c = record {
  value = c.in_ok-push_head.ensures.narrow;
  weight = search rules;
  ceiling = search rules;
  nodes = rw c.nodes-nodes.ensures at c.in_ok-push_nodes.ensures.narrow;
}

pub returns-in_err-push_head-clause-err : goal.returns-in_err-push_head-clause-err
returns-in_err-push_head-clause-err c = at_refusal _ _ c.in_err-push_head.ensures.err

pub returns-in_err-push_nodes-clause-err : goal.returns-in_err-push_nodes-clause-err
returns-in_err-push_nodes-clause-err c = at_refusal _ _ (begins_after _ _ _ _ c.in_ok-push_head.ensures.ok c.in_err-push_nodes.ensures.err)

pub returns-in_err-push_row-clause-err : goal.returns-in_err-push_row-clause-err
returns-in_err-push_row-clause-err c = at_refusal _ _ (begins_after _ _ _ _ c.in_ok-push_head.ensures.ok (begins_after _ _ _ _ c.in_ok-push_nodes.ensures.ok c.in_err-push_row.ensures.err))
