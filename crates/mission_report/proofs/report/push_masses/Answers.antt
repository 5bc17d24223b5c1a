use Rattle.std.proofs.Common.{◌*◌, ◌<◌, ◌≤◌, ◌≡◌, slice_index, arith}
use Rattle.search_model.specs.Tracks.{whole_weight}
use Rattle.search_model.proofs.Totals.{whole_weight-fits}
use Rattle.mission_report.specs.Report.{left_row}
use Rattle.mission_report.proofs.Masses.{mass_times-part, mass_lines}
use Rattle.mission_report.proofs.RowSteps.{left_by, left_line, line_more, lines_all}
use Rattle.mission_report.proofs.report.push_masses.Goals as goal

-- a cell's mass in the period is a part of the whole weight
part : (c : goal.After-at) → c.at.result * c.later_parts-later.result ≤ whole_weight c.args.sc.now
part c =
    let here : c.loop-c.c < c.args.sc.now.cells = omega (arith, c.loop-c-test.true, c.cells-c-end.ensures.value) in
    let mass : c.at.result ≡ slice_index c.args.belief.now.masses c.loop-c.c = c.at.ensures in
    rw mass (mass_times-part c.args.sc.now c.cells-c-end.ensures.sound c.requires.0 c.args.belief.now c.requires.1 c.loop-c.c c.later_parts-later.result (rw c.period-t.ensures at c.later_parts-later.ensures) here)

pub overflow_mul-at : goal.overflow_mul-at
overflow_mul-at c = omega (arith, part c, whole_weight-fits c.args.sc.now c.cells-c-end.ensures.sound)

pub push_left-requires-clause-mass : goal.push_left-requires-clause-mass
push_left-requires-clause-mass c = part c

pub loop-c-preserved : goal.loop-c-preserved
loop-c-preserved c =
    let p = c.args.sc.now in
    let masses = c.args.belief.now.masses in
    let later = c.later_parts-later.result in
    let here : c.loop-c.c < p.cells = omega (arith, c.loop-c-test.true, c.cells-c-end.ensures.value) in
    line_more (left_by p masses later) 0 p.cells c.loop-c.c (left_row p c.loop-c.c (c.at.result * later)) _ _ _ here (left_line p masses later c.loop-c.c c.at.result c.at.ensures) c.loop-c.invariant c.in_ok-push_left.ensures.ok

pub returns-clause-ok : goal.returns-clause-ok
returns-clause-ok c q is =
    let p = c.args.sc.now in
    let belief = c.args.belief.now in
    let later = c.later_parts-later.result in
    let all : p.cells ≤ c.loop-c.c = omega (arith, c.loop-c-test.false, c.cells-c-end.ensures.value) in
    rw (mass_lines p c.cells-c-end.ensures.sound q belief is later (rw c.period-t.ensures at c.later_parts-later.ensures)) at (lines_all (left_by p belief.masses later) 0 p.cells c.loop-c.c _ _ all c.loop-c.invariant)
