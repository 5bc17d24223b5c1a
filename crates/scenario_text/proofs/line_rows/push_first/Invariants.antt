use Rattle.std.proofs.Common.{◌≡◌, ◌++◌}
use Rattle.std.specs.List.{flat_map, range_with_len}
use Rattle.text_rows.specs.Rows.{spaced}
use Rattle.scenario_text.specs.RowFields.{entry_fields}
use Rattle.scenario_text.specs.Printing.{first_entry}
use Rattle.scenario_text.proofs.line_rows.push_first.Given as goal

abbrev pub invariant-loop-c : goal.invariant-loop-c
invariant-loop-c l = l.out.items ≡ l.fn.out.items ++ spaced (flat_map (λ c. entry_fields l.sc.names (first_entry l.sc c)) (range_with_len 0 l.c))
