use Rattle.std.proofs.Common.{◌≡◌, ◌++◌, map}
use Rattle.std.specs.List.{flat_map, range_with_len}
use Rattle.text_rows.specs.Rows.{text_of}
use Rattle.scenario_text.specs.Printing.{change_at, change_row}
use Rattle.scenario_text.proofs.printing.print_period.Given as goal

abbrev pub invariant-loop-c : goal.invariant-loop-c
invariant-loop-c l = l.out.items ≡ l.fn.out.items ++ text_of (map (change_row l.sc l.sort) (flat_map (change_at l.sc l.sort l.t) (range_with_len 0 l.c)))
