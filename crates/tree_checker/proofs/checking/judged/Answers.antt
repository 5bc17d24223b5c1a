use Rattle.std.proofs.Common.{◌≡◌, ℕ, ◌+◌, ◌<◌, ◌∷◌, List, length, drop, get_or, ap, sym, ◌∙◌, arith}
use Rattle.std.proofs.lemmas.List.{drop_more}
use Rattle.bound_tree.specs.declared.node.TreeNode.{TreeNode}
use Rattle.tree_checker.specs.Progress.{reason_if}
use Rattle.tree_checker.proofs.checking.judged.Goals as goal

pub loop-node-preserved : goal.loop-node-preserved
loop-node-preserved c =
    let tree : List TreeNode = c.args.plan.now.tree in
    let i : ℕ = c.loop-node.node-index in
    let node : TreeNode = c.node-item.result in
    let same : c.nodes-node-items.result.now ≡ tree = cc in
    let inside : i < length tree = omega (arith, ap length same) in
    let here : node ≡ get_or tree i node = cc in
    let rest : drop i tree ≡ node ∷ drop (i + 1) tree = cc (drop_more tree i node inside, here) in
    record {
      reason = c.node.ensures.reason (drop (i + 1) tree) ∙ ap (reason_if c.args.sc.now c.loop-node.checker) (sym rest) ∙ c.loop-node.invariant.reason;
      under_way = c.node.ensures.under_way;
      line = omega arith;
      made = c.node.ensures.made;
    }
