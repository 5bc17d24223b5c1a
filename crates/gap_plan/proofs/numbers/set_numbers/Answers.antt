use Rattle.std.proofs.Common.{sym, ap, ◌∙◌, subst, arith}
use Rattle.search_model.specs.Legal.{IsLegal}
use Rattle.bound_tree.specs.declared.gap.GapNode.{GapNode}
use Rattle.gap_plan.specs.Nodes.{numbered}
use Rattle.gap_plan.proofs.Numbered.{passed_none, still_there, passed_more, passed_all}
use Rattle.gap_plan.proofs.numbers.set_numbers.Goals as goal

pub loop-node-init : goal.loop-node-init
loop-node-init c = record { made = c.requires.made; passed = passed_none c.args.numbers c.args.sc.now c.args.nodes.now c.args.value }

pub set_number-most-requires-clause-legal : goal.set_number-most-requires-clause-legal
set_number-most-requires-clause-legal c =
    let i = c.loop-node.node-index in
    let there = still_there c.args.numbers c.args.sc.now c.args.nodes.now c.args.value i c.loop-node.nodes c.loop-node.most c.node-item.result c.loop-node.invariant.passed c.loop-node-test.true in
    subst (λ (node : GapNode). IsLegal c.args.sc.now node.prefix) (sym there) (c.requires.legal i c.node-item.result c.loop-node-test.true)

pub loop-node-preserved : goal.loop-node-preserved
loop-node-preserved c = record {
  made = c.set_number-most.ensures.made;
  passed =
      passed_more c.args.numbers c.args.sc.now c.args.nodes.now c.args.value c.loop-node.node-index c.loop-node.nodes c.loop-node.most c.set_number-most.result c.node-item.result
      c.set_number-most.new.node c.loop-node.invariant.passed c.loop-node-test.true c.node-item.is
      (c.set_number-most.ensures.node ∙ ap (numbered c.args.numbers c.args.sc.now) (sym c.node-item.is)) c.set_number-most.ensures.most;
}

pub returns-clause-nodes : goal.returns-clause-nodes
returns-clause-nodes c =
    (passed_all c.args.numbers c.args.sc.now c.args.nodes.now c.args.value c.loop-node.node-index c.loop-node.nodes c.loop-node.most c.loop-node.invariant.passed (omega arith)).0

pub returns-clause-ceiling : goal.returns-clause-ceiling
returns-clause-ceiling c =
    (passed_all c.args.numbers c.args.sc.now c.args.nodes.now c.args.value c.loop-node.node-index c.loop-node.nodes c.loop-node.most c.loop-node.invariant.passed (omega arith)).1
