use Rattle.tree_format.proofs.ItemsKept.{first_collected, stop_told}
use Rattle.tree_format.proofs.collecting.collect.Goals as goal

pub take_all-requires : goal.take_all-requires
take_all-requires c = first_collected c.args.family c.args.sc.now c.in_ok-feed.feed c.nothing_collected-kept.result c.in_ok-feed.ensures c.nothing_collected-kept.ensures.plan c.nothing_collected-kept.ensures.gap

pub returns : goal.returns
returns c = stop_told c.args.family c.in-Err.stop _ c.in-Err.ensures.fault
