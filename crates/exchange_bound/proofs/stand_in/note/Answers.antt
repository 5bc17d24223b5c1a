use Rattle.exchange_bound.proofs.Candidates.{noted_more, noted_none}
use Rattle.exchange_bound.proofs.stand_in.note.Goals as goal

pub returns-in-Some-clause-noted : goal.returns-in-Some-clause-noted
returns-in-Some-clause-noted c tried noted =
    let (is, same) = c.in-Some.ensures.some in
    noted_more c.args.sc.now c.args.prefix.now tried c.args.n c.args.row.now noted c.args.u c.in-Some.found c.requires.room is same

pub returns-in-None-clause-noted : goal.returns-in-None-clause-noted
returns-in-None-clause-noted c tried noted =
    noted_none c.args.sc.now c.args.prefix.now tried c.args.n c.args.row.now noted c.args.u c.in-None.ensures.none
