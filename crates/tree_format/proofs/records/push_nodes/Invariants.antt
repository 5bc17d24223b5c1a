use Rattle.std.proofs.Common.{◌≡◌, ◌++◌, take, map}
use Rattle.std.specs.Prelude.{All}
use Rattle.text_rows.specs.Rows.{text_of}
use Rattle.tree_format.specs.PlanText.{node_row, IsNarrowNode}
use Rattle.tree_format.proofs.records.push_nodes.Given as goal

abbrev pub invariant-loop-r : goal.invariant-loop-r
invariant-loop-r l = record {
  text : l.out.items ≡ l.fn.out.items ++ text_of (map (node_row l.dialect) (take l.r-index l.nodes));
  narrow : All (λ r. IsNarrowNode r.kind) (take l.r-index l.nodes);
}
