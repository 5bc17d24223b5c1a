use Rattle.std.proofs.Common.{subst}
use Rattle.bound_tree.specs.declared.node.TreeNode.{TreeNode}
use Rattle.tree_format.specs.Placing.{IsTaken, IsOutOfPlace}
use Rattle.tree_format.proofs.Placements.{more_taken, refused}
use Rattle.tree_format.proofs.placing.have_places.Goals as goal

pub returns-then-not-takes : goal.returns-then-not-takes
returns-then-not-takes c =
    let p = c.args.sc.now in
    let out = subst (IsOutOfPlace p c.loop-node.places) c.node-item.is (c.takes.ensures.no c.if-not-takes.true) in
    (λ bad. absurd (let wrong : ⊥ = cc in wrong), λ all. absurd (refused p c.args.records.now c.loop-node.node-index c.node-item.result c.loop-node.places c.loop-node-test.true c.loop-node.invariant out all))

pub loop-node-preserved : goal.loop-node-preserved
loop-node-preserved c =
    let p = c.args.sc.now in
    let here = subst (λ (r : TreeNode). IsTaken p c.loop-node.places r c.takes.new.self) c.node-item.is (c.takes.ensures.yes c.if-not-takes.false) in
    more_taken p c.args.records.now c.loop-node.node-index c.node-item.result c.loop-node.places c.takes.new.self c.loop-node-test.true c.loop-node.invariant here
