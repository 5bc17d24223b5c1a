use Rattle.belief_update.proofs.TrailSteps.{rows_more}
use Rattle.belief_update.proofs.trail.go_by.Goals as goal

pub returns-clause-rows : goal.returns-clause-rows
returns-clause-rows g c =
    rows_more c.args.sc.now c.args.looks.now c.args.i c.args.rows.now c.args.ahead.now c.make_row.new.rows c.make_ahead.new.ahead c.requires.rows c.make_row.auto.rows c.make_ahead.auto.ahead
    c.make_row.ensures.cells c.make_ahead.ensures.cells c.make_row.ensures.row c.make_ahead.ensures.ahead c.make_row.ensures.earlier c.make_ahead.ensures.earlier
