use Rattle.std.proofs.Common.{◌-◌, arith}
use Rattle.searcher_maps.proofs.GivenRows.{all_positions}
use Rattle.searcher_maps.proofs.looks.row_at.Goals as goal

pub index-requires : goal.index-requires
index-requires c =
    let long = all_positions c.args.periods.now (c.args.t - 1) c.index-periods-t.result (omega arith) c.index-periods-t.is c.requires.same in
    omega (arith, long, c.requires.position)
