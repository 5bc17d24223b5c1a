use Rattle.std.proofs.Common.{◌≡◌, ◌≤◌, ◌++◌, ◌-◌, map}
use Rattle.std.specs.List.{flat_map, range_with_len}
use Rattle.text_rows.specs.Rows.{text_of}
use Rattle.scenario_text.specs.Canonical.{other_rows}
use Rattle.scenario_text.specs.Printing.{in_force, change_owners, change_last, change_row}
use Rattle.scenario_text.proofs.printing.print_changes.Given as goal

abbrev pub invariant-loop-t : goal.invariant-loop-t
invariant-loop-t l = record {
  text : l.out.items ≡ l.fn.out.items ++ text_of (map (change_row l.sc l.sort) (flat_map (other_rows (in_force l.sc l.sort) (change_owners l.sc l.sort)) (range_with_len 2 (l.t - 2))));
  within : l.t - 2 ≤ change_last l.sc l.sort - 1;
}
