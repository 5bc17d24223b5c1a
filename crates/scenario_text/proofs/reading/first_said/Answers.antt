use Rattle.std.proofs.Common.{sym, ◌∙◌, rules}
use Rattle.text_rows.specs.Lines.{lines_of}
use Rattle.scenario_text.proofs.Loop.{said_here}
use Rattle.scenario_text.proofs.reading.first_said.Goals as goal

pub returns-then-not-is_all_blank : goal.returns-then-not-is_all_blank
returns-then-not-is_all_blank c =
    sym (said_here c.loop-rest.number c.cut_line.result.0.now (lines_of c.cut_line.result.1.now) (lines_of c.loop-rest.rest.now) c.cut_line.ensures.lines (search rules)) ∙ c.loop-rest.invariant.0
