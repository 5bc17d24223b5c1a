use Rattle.std.proofs.Common.{◌≡◌, ◌++◌, take, length}
use Rattle.std.specs.List.{flat_map, range_with_len}
use Rattle.text_rows.specs.Rows.{text_of}
use Rattle.mission_report.specs.Map.{period_block}
use Rattle.mission_report.proofs.maps.push_looks.Given as goal

abbrev pub invariant-loop-i : goal.invariant-loop-i
invariant-loop-i l = l.out.items ≡ l.fn.out.items ++ text_of (flat_map (period_block l.sc l.flown) (take l.i (range_with_len 1 (length l.flown))))
