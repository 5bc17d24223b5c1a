use Rattle.std.proofs.Common.{◌≡◌, ◌+◌, ◌≤◌, length}
use Rattle.text_rows.specs.Lines.{lines_of}
use Rattle.scenario_text.specs.Reading.{first_said}
use Rattle.scenario_text.proofs.reading.first_said.Given as goal

abbrev pub invariant-loop-rest : goal.invariant-loop-rest
invariant-loop-rest l =
    (first_said l.number (lines_of l.rest) ≡ first_said l.first (lines_of l.text))
    × (l.number + length l.rest ≤ l.first + length l.text)

abbrev pub decreases-loop-rest : goal.decreases-loop-rest
decreases-loop-rest l = length l.rest
