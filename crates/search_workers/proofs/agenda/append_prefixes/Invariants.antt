use Rattle.std.proofs.Common.{◌≡◌, ◌+◌, ◌≤◌, ◌++◌, map, length, take, vec_len, vec_capacity}
use Rattle.search_workers.proofs.agenda.append_prefixes.Given as goal

-- the first prefixes were added, and there is room for the others
abbrev pub invariant-loop-item : goal.invariant-loop-item
invariant-loop-item l = record {
  items : l.others.items ≡ l.initial.others.items ++ map (λ i. i.prefix) (take l.item-index l.items);
  room : vec_len l.others + length l.items ≤ vec_capacity l.others + l.item-index;
}
