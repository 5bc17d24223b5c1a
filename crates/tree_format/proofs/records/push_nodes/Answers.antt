use Rattle.std.proofs.Common.{◌≡◌, ◌++◌, ◌∷◌, [], ◌∙◌, ap, sym, subst, List, ℕ, arith}
use Rattle.std.specs.Prelude.{All}
use Rattle.std.proofs.lemmas.List.{take_all}
use Rattle.std.proofs.lemmas.List.Elements.{All-more}
use Rattle.std.proofs.lemmas.Result.{IfOk-from_err}
use Rattle.text_rows.specs.Rows.{text_of}
use Rattle.text_rows.proofs.RowLemmas.{text_of-more}
use Rattle.exact_parts.proofs.AppendLemmas.{then_more, at_refusal}
use Rattle.exact_parts.proofs.Beginnings.{begins_after}
use Rattle.bound_tree.specs.declared.gap.GapNode.{GapNode}
use Rattle.tree_format.specs.PlanText.{node_row, IsNarrowNode}
use Rattle.tree_format.proofs.records.push_nodes.Goals as goal

pub loop-r-preserved : goal.loop-r-preserved
loop-r-preserved c =
    let line = subst (λ (r : GapNode). c.push_node.new.out.items ≡ c.loop-r.out.items ++ text_of (node_row c.args.dialect r ∷ [])) c.r-item.is c.in_ok-push_node.ensures.ok in
    let N : GapNode → Type 0 = λ r. IsNarrowNode r.kind in
    record {
      text = then_more _ _ _ _ _ c.loop-r.invariant.text line ∙ ap (λ (t : List ℕ). c.args.out.now.items ++ t) (sym (text_of-more (node_row c.args.dialect) c.args.nodes.now c.loop-r.r-index c.r-item.result c.loop-r-test.true));
      narrow = All-more N c.args.nodes.now c.loop-r.r-index c.r-item.result c.loop-r-test.true c.loop-r.invariant.narrow (subst N c.r-item.is c.in_ok-push_node.ensures.narrow);
    }

pub returns-in_err-push_node-clause-err : goal.returns-in_err-push_node-clause-err
returns-in_err-push_node-clause-err c = at_refusal _ _ (begins_after _ _ _ _ c.loop-r.invariant.text c.in_err-push_node.ensures.err)

pub returns-in_err-push_node-clause-narrow : goal.returns-in_err-push_node-clause-narrow
returns-in_err-push_node-clause-narrow c = IfOk-from_err _ _ c.from_residual.ensures.0

pub returns-clause-ok : goal.returns-clause-ok
returns-clause-ok c =
    let all = take_all c.loop-r.r-index c.args.nodes.now (omega (arith, c.loop-r-test.false)) in
    rw all at c.loop-r.invariant.text

pub returns-clause-narrow : goal.returns-clause-narrow
returns-clause-narrow c =
    let all = take_all c.loop-r.r-index c.args.nodes.now (omega (arith, c.loop-r-test.false)) in
    subst (All (λ (r : GapNode). IsNarrowNode r.kind)) all c.loop-r.invariant.narrow

pub returns-in_err-push_node-clause-ok : goal.returns-in_err-push_node-clause-ok
returns-in_err-push_node-clause-ok c = IfOk-from_err _ _ c.from_residual.ensures.0
