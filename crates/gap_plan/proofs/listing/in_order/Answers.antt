use Rattle.std.proofs.Common.{◌≡◌, rules, ap, is_lt, nat_cmp}
use Rattle.std.specs.Cmp.Lexicographic.{slice_cmp}
use Rattle.std.proofs.lemmas.Cmp.{nat_list_cmp_total}
use Rattle.std.proofs.lemmas.List.Sorted.{ranks_by, answers_always}
use Rattle.search_model.specs.Order.{smaller}
use Rattle.bound_tree.specs.declared.gap.GapNode.{GapNode}
use Rattle.gap_plan.proofs.listing.in_order.Goals as goal

pub returns-clause-sorted : goal.returns-clause-sorted
returns-clause-sorted c =
    c.sort_unstable_by.ensures.sorted (λ a b. smaller a.prefix b.prefix) (ranks_by nat_list_cmp_total (λ (node : GapNode). node.prefix))
    (answers_always _ (λ a r. is_lt r ≡ smaller a.0.now.prefix a.1.0.now.prefix) _ (λ f a r g k. ap is_lt (let e : r ≡ slice_cmp nat_cmp a.0.now.prefix a.1.0.now.prefix = search rules in e)))
