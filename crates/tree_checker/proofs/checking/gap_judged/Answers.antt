use Rattle.std.proofs.Common.{◌≡◌, ℕ, ◌+◌, ◌<◌, [], ◌∷◌, List, length, drop, get_or, ap, sym, ◌∙◌, arith}
use Rattle.std.proofs.lemmas.List.{drop_all, drop_more}
use Rattle.search_model.specs.Problem.{Problem}
use Rattle.bound_tree.specs.declared.gap.GapNode.{GapNode}
use Rattle.tree_checker.specs.GapReasons.{gap_verdict_of}
use Rattle.tree_checker.specs.Progress.{Progress, gap_reason_if}
use Rattle.tree_checker.proofs.checking.gap_judged.Goals as goal

pub returns : goal.returns
returns c =
    let p : Problem = c.args.sc.now in
    let g : Progress = c.loop-node.checker in
    let nodes : List GapNode = c.args.plan.now.nodes in
    let ceiling : ℕ = c.args.plan.now.ceiling in
    let same : c.nodes-node-items.result.now ≡ nodes = cc in
    let none : drop c.loop-node.node-index nodes ≡ [] = drop_all c.loop-node.node-index nodes (omega (arith, ap length same)) in
    c.finish_gap.ensures
    ∙ ap gap_verdict_of (ap (gap_reason_if p g ceiling) (sym none) ∙ c.loop-node.invariant.reason)

pub loop-node-preserved : goal.loop-node-preserved
loop-node-preserved c =
    let nodes : List GapNode = c.args.plan.now.nodes in
    let ceiling : ℕ = c.args.plan.now.ceiling in
    let i : ℕ = c.loop-node.node-index in
    let node : GapNode = c.node-item.result in
    let same : c.nodes-node-items.result.now ≡ nodes = cc in
    let inside : i < length nodes = omega (arith, ap length same) in
    let here : node ≡ get_or nodes i node = cc in
    let rest : drop i nodes ≡ node ∷ drop (i + 1) nodes = cc (drop_more nodes i node inside, here) in
    record {
      reason = c.open_node.ensures.reason ceiling (drop (i + 1) nodes) ∙ ap (gap_reason_if c.args.sc.now c.loop-node.checker ceiling) (sym rest) ∙ c.loop-node.invariant.reason;
      under_way = c.open_node.ensures.under_way;
      line = omega arith;
      made = c.open_node.ensures.made;
    }
