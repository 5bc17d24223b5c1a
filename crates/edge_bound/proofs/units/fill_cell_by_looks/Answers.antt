use Rattle.std.proofs.Common.{◌∙◌, arith}
use Rattle.edge_bound.proofs.UnitTable.{one_gone, one-within}
use Rattle.edge_bound.proofs.units.fill_cell_by_looks.Goals as goal

pub fill_found-requires-clause-fits : goal.fill_found-requires-clause-fits
fill_found-requires-clause-fits c b there =
    let p = c.args.sc.now in
    let sound = c.recall_sound.ensures in
    omega (arith, one_gone p sound c.args.t c.args.c b c.go_once.new.gone c.go_once.ensures.each, one-within p sound c.args.t c.args.c b c.requires.cell)

pub returns-clause-each : goal.returns-clause-each
returns-clause-each c b there =
    c.fill_found.ensures.each b there ∙ one_gone c.args.sc.now c.recall_sound.ensures c.args.t c.args.c b c.go_once.new.gone c.go_once.ensures.each
