use Rattle.search_model.proofs.LookRows.{own_cell}
use Rattle.tangent_bound.proofs.gains.covered.Goals as goal

pub missed-requires-clause-cell : goal.missed-requires-clause-cell
missed-requires-clause-cell c =
    own_cell c.args.sc.now c.sweep.ensures.sound c.args.t c.args.a _ c.sweep.ensures.value _ c.in-Some.ensures.row
