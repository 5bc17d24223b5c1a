use Rattle.std.proofs.Common.{◌+◌, ◌≤◌, ◌++◌, length, take}
use Rattle.std.specs.BinaryHeap.{heap_len, heap_capacity}
use Rattle.bound_tree.specs.Accepts.{children_by}
use Rattle.search_core.specs.Counts.{SameItems}
use Rattle.search_workers.specs.Agendas.{prefixes_in}
use Rattle.search_workers.proofs.agenda.push_each.Given as goal

-- the children by the first moves were put, and there is room for the others
abbrev pub invariant-loop-b : goal.invariant-loop-b
invariant-loop-b l = record {
  same : SameItems (prefixes_in l.heap) (prefixes_in l.initial.heap ++ children_by l.prefix (take l.b-index l.moves));
  room : heap_len l.heap + length l.moves ≤ heap_capacity l.heap + l.b-index;
}
