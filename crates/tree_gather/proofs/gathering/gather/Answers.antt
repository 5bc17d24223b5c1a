use Rattle.std.proofs.Common.{◌≡◌, List, rules, ap, subst, sym, is_lt, nat_cmp}
use Rattle.std.specs.Cmp.Lexicographic.{slice_cmp}
use Rattle.std.specs.List.Sorted.{IsSortedBy}
use Rattle.std.proofs.lemmas.Cmp.{nat_list_cmp_total}
use Rattle.std.proofs.lemmas.List.Sorted.{ranks_by, answers_always}
use Rattle.bound_tree.specs.declared.node.TreeNode.{TreeNode}
use Rattle.search_model.specs.Order.{smaller}
use Rattle.tree_gather.specs.Gathered.{IsGathered}
use Rattle.tree_gather.proofs.Sorted.{sorted_is_gathered, gathered_is_accepted}
use Rattle.tree_gather.proofs.gathering.gather.Goals as goal

pub returns-clause-gathered : goal.returns-clause-gathered
returns-clause-gathered c =
    let made : List TreeNode = c.sort_unstable_by.new.self.items in
    let sorted : IsSortedBy (λ (a : TreeNode) (b : TreeNode). smaller a.prefix b.prefix) made =
    c.sort_unstable_by.ensures.sorted (λ a b. smaller a.prefix b.prefix) (ranks_by nat_list_cmp_total (λ (r : TreeNode). r.prefix))
    (answers_always _ (λ a r. is_lt r ≡ smaller a.0.now.prefix a.1.0.now.prefix) _ (λ f a r g k. ap is_lt (let e : r ≡ slice_cmp nat_cmp a.0.now.prefix a.1.0.now.prefix = search rules in e))) in
    subst (IsGathered c.args.nodes.items) (sym c.of.ensures)
    (sorted_is_gathered c.args.sc.now c.args.nodes.items made c.recall_sound.ensures c.requires c.sort_unstable_by.ensures.permutation sorted)

pub returns-clause-accepted : goal.returns-clause-accepted
returns-clause-accepted c =
    gathered_is_accepted c.args.sc.now c.args.nodes.items c.of.result c.recall_sound.ensures c.requires (returns-clause-gathered c)
