use Rattle.std.proofs.Common.{◌≡◌, ◌-◌, ◌≤◌, ◌++◌, map, take, length}
use Rattle.text_rows.specs.Fields.{exact_fields}
use Rattle.tree_format.proofs.pieces.first_fields.Given as goal

abbrev pub invariant-loop-len : goal.invariant-loop-len
invariant-loop-len l = record {
  so_far : map (λ f. f.now) (take l.len l.items) ++ map (λ f. take 40 f) (take (70 - l.len) (exact_fields l.rest)) ≡ map (λ f. take 40 f) (take 70 (exact_fields l.line));
  few : l.len ≤ 70;
  room : length l.items ≡ 70;
}

abbrev pub decreases-loop-len : goal.decreases-loop-len
decreases-loop-len l = 70 - l.len
