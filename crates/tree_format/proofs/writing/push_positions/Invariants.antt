use Rattle.std.proofs.Common.{◌≡◌, ◌++◌, take}
use Rattle.text_rows.specs.Rows.{spaced}
use Rattle.tree_format.specs.PlanText.{numbers}
use Rattle.tree_format.proofs.writing.push_positions.Given as goal

abbrev pub invariant-loop-q : goal.invariant-loop-q
invariant-loop-q l = l.out.items ≡ l.fn.out.items ++ spaced (numbers (take l.q-index l.positions))
