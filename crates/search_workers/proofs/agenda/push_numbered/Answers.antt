use Rattle.std.specs.BinaryHeap.{heap_items}
use Rattle.search_workers.proofs.Agendas.{pushed_same}
use Rattle.search_workers.proofs.agenda.push_numbered.Goals as goal

pub returns-clause-items : goal.returns-clause-items
returns-clause-items c = pushed_same (heap_items c.args.heap.now) (heap_items c.push.new.self) c.args.item c.in-Ok.ensures.permutation
