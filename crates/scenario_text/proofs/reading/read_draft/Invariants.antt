use Rattle.std.proofs.Common.{◌≡◌, ◌+◌, ◌-◌, ◌≤◌, length}
use Rattle.text_rows.specs.Lines.{lines_of, after_lines}
use Rattle.text_rows.specs.LineMachine.{read_from}
use Rattle.scenario_text.specs.State.{state_of}
use Rattle.scenario_text.specs.Sound.{IsSound}
use Rattle.scenario_text.specs.Reading.{scenario_lines, front_of}
use Rattle.scenario_text.proofs.reading.read_draft.Given as goal

abbrev pub invariant-loop-rest : goal.invariant-loop-rest
invariant-loop-rest l = record {
  so_far : read_from scenario_lines (state_of l.draft) l.number (lines_of l.rest) ≡ front_of l.text;
  rest : l.rest ≡ after_lines (l.number - 1) l.text;
  number : 1 ≤ l.number;
  short : l.number + length l.rest ≤ 1 + length l.text;
  sound : IsSound (state_of l.draft);
}

abbrev pub decreases-loop-rest : goal.decreases-loop-rest
decreases-loop-rest l = length l.rest
