use Rattle.std.proofs.Common.{◌∙◌, arith}
use Rattle.two_look_bound.proofs.TwosTable.{two_gone, two-within}
use Rattle.two_look_bound.proofs.twos.fill_cell.Goals as goal

pub fill_found-requires-clause-fits : goal.fill_found-requires-clause-fits
fill_found-requires-clause-fits c b there =
    let p = c.args.sc.now in
    let sound = c.recall_sound.ensures in
    omega (arith, two_gone p sound c.args.s c.args.c b c.go_twice.new.gone c.go_twice.ensures.gone, two-within p sound c.args.s c.args.c b c.requires.cell)

pub returns-clause-each : goal.returns-clause-each
returns-clause-each c b there =
    c.fill_found.ensures.each b there ∙ two_gone c.args.sc.now c.recall_sound.ensures c.args.s c.args.c b c.go_twice.new.gone c.go_twice.ensures.gone
