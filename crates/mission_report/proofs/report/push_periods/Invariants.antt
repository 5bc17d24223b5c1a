use Rattle.std.proofs.Common.{◌≡◌, ◌++◌, map, take}
use Rattle.text_rows.specs.Rows.{text_of}
use Rattle.mission_report.specs.Account.{all_periods}
use Rattle.mission_report.specs.Report.{period_of}
use Rattle.mission_report.proofs.report.push_periods.Given as goal

abbrev pub invariant-loop-i : goal.invariant-loop-i
invariant-loop-i l = l.out.items ≡ l.fn.out.items ++ text_of (map (period_of l.sc l.path) (take l.i (all_periods l.sc)))
