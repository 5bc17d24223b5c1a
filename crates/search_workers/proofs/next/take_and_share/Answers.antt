use Rattle.std.proofs.Common.{[], arith}
use Rattle.search_workers.specs.Agendas.{kept, prefixes_in, out_of}
use Rattle.search_workers.proofs.Agendas.{shift_then}
use Rattle.search_workers.proofs.next.take_and_share.Goals as goal

pub returns-clause-shifts : goal.returns-clause-shifts
returns-clause-shifts c =
    let out = out_of c.take_or_pop-next.result in
    shift_then c.args.kit.now c.take_or_pop-next.new.kit c.offer.new.kit (kept c.args.agenda.now) (kept c.take_or_pop-next.new.agenda) (prefixes_in c.offer.new.heap) out [] out
    c.take_or_pop-next.ensures.shifts c.offer.ensures.shifts (λ q. omega arith)
