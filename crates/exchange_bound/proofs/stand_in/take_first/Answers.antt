use Rattle.exchange_bound.proofs.Candidates.{left_after}
use Rattle.exchange_bound.proofs.stand_in.take_first.Goals as goal

pub returns-clause-left : goal.returns-clause-left
returns-clause-left c p q left free =
    left_after p q c.args.from c.args.to c.args.row.now c.first_place-j.result c.first_place-j.ensures.from c.first_place-j.ensures.to left free
