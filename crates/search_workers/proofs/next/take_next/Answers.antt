use Rattle.std.proofs.Common.{◌*◌, [], arith}
use Rattle.search_workers.specs.Agendas.{kept, out_of}
use Rattle.search_workers.specs.Rounds.{others}
use Rattle.search_workers.proofs.Agendas.{tried_shift, shift_then}
use Rattle.search_workers.proofs.next.take_next.Goals as goal

pub returns-in-None-clause-shifts : goal.returns-in-None-clause-shifts
returns-in-None-clause-shifts g c =
    let out = out_of c.take_task.result in
    shift_then c.args.kit.now c.take_at_hand.new.kit c.take_task.new.kit (kept c.args.agenda.now) (kept c.take_at_hand.new.agenda) (kept c.take_at_hand.new.agenda) [] out out
    c.in-None.ensures.shifts
    (tried_shift c.take_at_hand.new.kit c.take_task.new.kit (kept c.take_at_hand.new.agenda) (1024 * others c.take_at_hand.new.kit) c.take_task.result c.take_task.ensures.got c.take_task.ensures.none)
    (λ q. omega arith)
