use Rattle.std.proofs.Common.{[], arith}
use Rattle.search_workers.specs.Agendas.{kept, out_of}
use Rattle.search_workers.specs.Rounds.{others}
use Rattle.search_workers.proofs.Agendas.{took_shift, missed_shift, agenda_shift, shift_then}
use Rattle.search_workers.proofs.next.take_or_pop.Goals as goal

pub returns-in-Some-clause-shifts : goal.returns-in-Some-clause-shifts
returns-in-Some-clause-shifts c = took_shift c.args.kit.now c.take_in_round.new.kit (kept c.args.agenda.now) c.in-Some.task c.in-Some.ensures.got

pub returns-in-None-clause-shifts : goal.returns-in-None-clause-shifts
returns-in-None-clause-shifts c =
    shift_then c.args.kit.now c.take_in_round.new.kit c.take_in_round.new.kit (kept c.args.agenda.now) (kept c.args.agenda.now) (kept c.pop.new.self) [] (out_of c.pop.result) (out_of c.pop.result)
    (missed_shift c.args.kit.now c.take_in_round.new.kit (kept c.args.agenda.now) (others c.args.kit.now) c.in-None.ensures.none)
    (agenda_shift c.take_in_round.new.kit (kept c.args.agenda.now) (kept c.pop.new.self) (out_of c.pop.result) c.pop.ensures.out)
    (λ q. omega arith)
