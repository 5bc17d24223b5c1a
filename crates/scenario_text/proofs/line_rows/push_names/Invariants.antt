use Rattle.std.proofs.Common.{◌≡◌, ◌++◌, take, map}
use Rattle.text_rows.specs.Rows.{spaced}
use Rattle.search_model.specs.Names.{name_in}
use Rattle.scenario_text.proofs.line_rows.push_names.Given as goal

abbrev pub invariant-loop-q : goal.invariant-loop-q
invariant-loop-q l = l.out.items ≡ l.fn.out.items ++ spaced (map (name_in l.sc.position_names) (take l.q-index l.positions))
