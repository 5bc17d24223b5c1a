use Rattle.std.proofs.Common.{◌≡◌, ◌++◌, take}
use Rattle.text_rows.specs.Rows.{spaced}
use Rattle.scenario_text.specs.RowFields.{entry_fields}
use Rattle.scenario_text.proofs.line_rows.push_entries.Given as goal

abbrev pub invariant-loop-entry : goal.invariant-loop-entry
invariant-loop-entry l = l.out.items ≡ l.fn.out.items ++ spaced (entry_fields l.sc.names (take l.entry-index l.entries))
