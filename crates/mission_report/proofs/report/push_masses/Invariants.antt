use Rattle.std.proofs.Common.{◌≡◌, ◌++◌, map, take}
use Rattle.text_rows.specs.Rows.{text_of}
use Rattle.mission_report.specs.Account.{all_cells}
use Rattle.mission_report.proofs.RowSteps.{left_by}
use Rattle.mission_report.proofs.report.push_masses.Given as goal

abbrev pub invariant-loop-c : goal.invariant-loop-c
invariant-loop-c l = l.out.items ≡ l.fn.out.items ++ text_of (map (left_by l.sc l.belief.masses l.later) (take l.c (all_cells l.sc)))
