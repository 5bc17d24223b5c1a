use Rattle.incumbent_board.proofs.Steps.{tries}
use Rattle.incumbent_board.proofs.cell.try_place_as.Goals as goal

pub try_step-requires-clause-rule : goal.try_step-requires-clause-rule
try_step-requires-clause-rule g c =
    let r = c.requires in
    rw (r.words, ← r.picked.0, ← r.picked.1) (tries c.args.expected c.args.offer.now _ _ r.seen.0 r.seen.1 r.offer r.shown r.better)
