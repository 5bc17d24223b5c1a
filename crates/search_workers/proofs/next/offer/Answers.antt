use Rattle.std.specs.BinaryHeap.{heap_items}
use Rattle.search_workers.specs.Agendas.{prefixes_in}
use Rattle.search_workers.proofs.Agendas.{popped_same, offered, offered_back}
use Rattle.search_workers.proofs.next.offer.Goals as goal

pub returns-in-Err-clause-shifts : goal.returns-in-Err-clause-shifts
returns-in-Err-clause-shifts c =
    let popped = popped_same (heap_items c.args.heap.now) (heap_items c.pop.new.self) c.in-Some.item c.in-Some.ensures.permutation in
    offered_back c.args.kit.now c.put.new.self (prefixes_in c.args.heap.now) (prefixes_in c.pop.new.self) (prefixes_in c.push_numbered.new.heap) c.in-Some.item.prefix c.in-Err.back
    c.in-Err.ensures.back.1 c.in-Err.ensures.back.0 popped c.push_numbered.ensures.items

pub returns-in_default-put-clause-shifts : goal.returns-in_default-put-clause-shifts
returns-in_default-put-clause-shifts c =
    let popped = popped_same (heap_items c.args.heap.now) (heap_items c.pop.new.self) c.in-Some.item c.in-Some.ensures.permutation in
    let same = c.in_default-put.ensures.same in
    offered c.args.kit.now c.put.new.self (prefixes_in c.args.heap.now) (prefixes_in c.pop.new.self) c.in-Some.item.prefix
    same.0 same.1 c.in_default-put.ensures.taken c.in_default-put.ensures.put popped
