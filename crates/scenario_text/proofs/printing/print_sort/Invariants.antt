use Rattle.std.proofs.Common.{◌≡◌, ◌++◌, map}
use Rattle.std.specs.List.{range_with_len}
use Rattle.text_rows.specs.Rows.{text_of}
use Rattle.scenario_text.specs.Printing.{sort_row}
use Rattle.scenario_text.proofs.printing.print_sort.Given as goal

abbrev pub invariant-loop-c : goal.invariant-loop-c
invariant-loop-c l = l.out.items ≡ l.fn.out.items ++ text_of (map (sort_row l.sc l.sort) (range_with_len 0 l.c))
