use Rattle.std.proofs.Common.{subst, refl}
use Rattle.std.specs.Prelude.{All}
use Rattle.std.proofs.lemmas.List.{take_all}
use Rattle.std.proofs.lemmas.List.Elements.{All-more}
use Rattle.bound_tree.specs.declared.node.TreeNode.{TreeNode}
use Rattle.tree_format.specs.PlanText.{HasLetter}
use Rattle.tree_format.proofs.placing.have_letters.Goals as goal

pub loop-node-preserved : goal.loop-node-preserved
loop-node-preserved c =
    let N : TreeNode → Type 0 = λ r. HasLetter c.args.dialect r.kind in
    let here : N c.node-item.result = c.has_letter.ensures.0 c.if-not-has_letter.false in
    All-more N c.args.records.now c.loop-node.node-index c.node-item.result c.loop-node-test.true c.loop-node.invariant (subst N c.node-item.is here)

pub returns : goal.returns
returns c =
    let N : TreeNode → Type 0 = λ r. HasLetter c.args.dialect r.kind in
    (λ _. subst (All N) (take_all c.loop-node.node-index c.args.records.now c.loop-node-test.false) c.loop-node.invariant, λ _. refl)
