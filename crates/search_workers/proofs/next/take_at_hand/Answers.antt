use Rattle.search_workers.specs.Agendas.{kept, out_of}
use Rattle.search_workers.proofs.Agendas.{agenda_shift}
use Rattle.search_workers.proofs.next.take_at_hand.Goals as goal

pub returns-clause-shifts : goal.returns-clause-shifts
returns-clause-shifts c = agenda_shift c.args.kit.now (kept c.args.agenda.now) (kept c.pop.new.self) (out_of c.pop.result) c.pop.ensures.out
