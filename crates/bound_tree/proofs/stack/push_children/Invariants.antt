use Rattle.std.proofs.Common.{◌≡◌, ◌+◌, ◌≤◌, ◌++◌, reverse, drop, vec_len, vec_capacity}
use Rattle.bound_tree.specs.Accepts.{children_by}
use Rattle.bound_tree.proofs.stack.push_children.Given as goal

-- the children by the moves from i on stand on the stack
abbrev pub invariant-loop-i : goal.invariant-loop-i
invariant-loop-i l = record {
  items : l.stack.items ≡ l.initial.stack.items ++ reverse (children_by l.prefix (drop l.i l.moves));
  room : vec_len l.stack + l.i ≤ vec_capacity l.stack;
  capacity : vec_capacity l.initial.stack ≤ vec_capacity l.stack;
}
