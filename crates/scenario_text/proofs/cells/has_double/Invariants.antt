use Rattle.std.proofs.Common.{◌≡◌, drop}
use Rattle.scenario_text.specs.ByCells.{has_double}
use Rattle.scenario_text.proofs.cells.has_double.Given as goal

abbrev pub invariant-loop-i : goal.invariant-loop-i
invariant-loop-i l = has_double (drop l.i l.cells) ≡ has_double l.cells
