use Rattle.std.proofs.Common.{◌≡◌, ◌++◌, take}
use Rattle.std.specs.List.{flat_map}
use Rattle.text_rows.specs.Rows.{spaced}
use Rattle.scenario_text.specs.RowFields.{entry_fields}
use Rattle.scenario_text.specs.Printing.{covered_entry}
use Rattle.scenario_text.proofs.line_rows.push_covered.Given as goal

abbrev pub invariant-loop-entry : goal.invariant-loop-entry
invariant-loop-entry l = l.out.items ≡ l.fn.out.items ++ spaced (flat_map (λ e. entry_fields l.sc.names (covered_entry l.sc e)) (take l.entry-index l.entries))
