use Rattle.std.proofs.Common.{◌≡◌, ◌++◌, take, map}
use Rattle.std.specs.Prelude.{All}
use Rattle.text_rows.specs.Rows.{text_of}
use Rattle.bound_tree.specs.Gaps.{closed_node}
use Rattle.tree_format.specs.PlanText.{node_row, IsNarrowKind}
use Rattle.tree_format.proofs.records.push_records.Given as goal

abbrev pub invariant-loop-r : goal.invariant-loop-r
invariant-loop-r l = record {
  text : l.out.items ≡ l.fn.out.items ++ text_of (map (λ r. node_row l.dialect (closed_node r)) (take l.r-index l.records));
  narrow : All (λ r. IsNarrowKind r.kind) (take l.r-index l.records);
}
