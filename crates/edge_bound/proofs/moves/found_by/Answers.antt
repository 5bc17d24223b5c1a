use Rattle.std.proofs.Common.{arith}
use Rattle.search_model.proofs.Totals.{whole_weight-fits}
use Rattle.belief_update.proofs.OnwardRows.{belief_at}
use Rattle.edge_bound.proofs.Fitting.{found-within}
use Rattle.edge_bound.proofs.Through.{found_onward}
use Rattle.edge_bound.proofs.moves.found_by.Goals as goal

pub found-requires-clause-cells : goal.found-requires-clause-cells
found-requires-clause-cells c =
    let belief = belief_at c.args.sc.now c.args.prefix.now c.args.onward.now c.args.t c.at.result.now c.requires.onward c.requires.later c.requires.last c.at.ensures in
    rw c.masses.ensures belief.cells

pub found-requires-clause-fits : goal.found-requires-clause-fits
found-requires-clause-fits c =
    let p = c.args.sc.now in
    let q = c.args.prefix.now in
    let sound = c.recall_sound.ensures in
    let found = found_onward p sound q c.args.t c.args.b c.args.onward.now c.at.result.now c.requires.onward c.requires.later c.requires.last c.at.ensures in
    rw c.masses.ensures (omega (arith, found, found-within p sound q c.args.t c.args.b c.requires.later c.requires.last, whole_weight-fits p sound))

pub returns : goal.returns
returns c =
    rw (c.found.ensures, c.masses.ensures)
    (found_onward c.args.sc.now c.recall_sound.ensures c.args.prefix.now c.args.t c.args.b c.args.onward.now c.at.result.now c.requires.onward c.requires.later c.requires.last c.at.ensures)
