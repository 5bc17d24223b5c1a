use Rattle.std.specs.BinaryHeap.{heap_items}
use Rattle.search_workers.proofs.Agendas.{popped_same}
use Rattle.search_workers.proofs.agenda.Agenda.pop.Goals as goal

pub returns-clause-out : goal.returns-clause-out
returns-clause-out c = popped_same (heap_items c.args.self.now.heap) (heap_items c.pop.new.self) c.in-Some.item c.in-Some.ensures.permutation
