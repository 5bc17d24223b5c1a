use Rattle.std.proofs.Common.{◌≡◌, ◌++◌, take, map}
use Rattle.text_rows.specs.Rows.{spaced}
use Rattle.search_model.specs.Problem.{position_name}
use Rattle.tree_format.proofs.writing.push_names.Given as goal

abbrev pub invariant-loop-q : goal.invariant-loop-q
invariant-loop-q l = l.out.items ≡ l.fn.out.items ++ spaced (map (position_name l.sc) (take l.q-index l.positions))
