use Rattle.tree_format.proofs.ItemsKept.{collected_more, collected_item, collected_fault}
use Rattle.tree_format.proofs.collecting.take_some.Goals as goal

pub returns-in-More-clause-taken : goal.returns-in-More-clause-taken
returns-in-More-clause-taken c = λ before h.
    collected_more c.args.family c.args.sc.now before c.args.text.now c.feed-used.result.used c.args.feed.now c.feed-used.new.self c.args.kept.now c.feed-used.result.step h
    c.in-More.is c.feed-used.ensures.all c.feed-used.ensures.more

pub returns-in_ok-keep-in-Item-clause-taken : goal.returns-in_ok-keep-in-Item-clause-taken
returns-in_ok-keep-in-Item-clause-taken c = λ before h.
    collected_item c.args.family c.args.sc.now before c.args.text.now c.feed-used.result.used c.args.feed.now c.feed-used.new.self c.args.kept.now c.feed-used.result.step h
    c.in-Item.item c.keep.new.kept c.in-Item.is c.in_ok-keep-in-Item.ensures c.feed-used.ensures.item

pub returns-in-Fault-clause-fault : goal.returns-in-Fault-clause-fault
returns-in-Fault-clause-fault c = λ before h.
    collected_fault c.args.family c.args.sc.now before c.args.text.now c.feed-used.result.used c.args.feed.now c.feed-used.new.self c.args.kept.now c.feed-used.result.step h
    c.in-Fault.fault c.in-Fault.is c.feed-used.ensures.fault
