use Rattle.std.proofs.Common.{◌+◌, ◌≤◌, length, take}
use Rattle.bound_tree.specs.Accepts.{children_by}
use Rattle.steal_pool.specs.Kits.{put_of}
use Rattle.search_workers.specs.Children.{Puts, OnlyPut}
use Rattle.search_workers.proofs.children.put_children.Given as goal

-- the children by the first moves were put or handed back
abbrev pub invariant-loop-next : goal.invariant-loop-next
invariant-loop-next l = record {
  puts : Puts (children_by l.prefix (take l.next-index l.moves)) (put_of l.initial.kit) l.initial.stack (put_of l.kit) l.stack;
  kit : OnlyPut l.initial.kit l.kit;
  room : length l.stack ≤ length l.initial.stack + l.next-index;
}
