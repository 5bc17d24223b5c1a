use Rattle.std.proofs.Common.{List, map, sym, subst}
use Rattle.search_workers.specs.declared.crew.Member.{Member}
use Rattle.search_workers.specs.Crew.{LeaveTogether}
use Rattle.search_workers.specs.Desks.{DeskView}
use Rattle.search_workers.specs.Seen.{desk_view}
use Rattle.search_workers.specs.Settled.{IsSettled, LeaveDesks}
use Rattle.search_workers.proofs.Crews.{settled_crew, left_desks, tickets_at, seats_at}
use Rattle.search_workers.proofs.searching.wind_up.Goals as goal

pub finish-end-requires-clause-settled : goal.finish-end-requires-clause-settled
finish-end-requires-clause-settled g c =
    let p = c.args.sc.now in
    let t = c.args.tickets.now in
    let b = c.args.board.now in
    subst (λ (ds : List DeskView). IsSettled p t b c.in-Ok.tasks.items ds) (sym c.settle_all-desks.ensures.desks)
    (settled_crew p t b c.args.members.items c.in-Ok.tasks.items c.requires.complete c.requires.gone c.requires.some (rw c.in-Ok.is at c.settle_all-desks.ensures.left))

pub finish-end-requires-clause-left : goal.finish-end-requires-clause-left
finish-end-requires-clause-left g c =
    let p = c.args.sc.now in
    let t = c.args.tickets.now in
    let b = c.args.board.now in
    let tasks = c.in-Ok.tasks.items in
    let crew = c.args.members.items in
    let settled = settled_crew p t b crew tasks c.requires.complete c.requires.gone c.requires.some (rw c.in-Ok.is at c.settle_all-desks.ensures.left) in
    let left = c.left_together-left.result in
    let together : LeaveTogether crew left = subst (λ (ms : List Member). LeaveTogether ms left) c.deref.ensures.value c.left_together-left.ensures in
    subst (LeaveDesks left) (sym c.settle_all-desks.ensures.desks)
    (left_desks p t b crew tasks left c.recall_sound.ensures c.requires.gone settled together)

pub returns-in_default-clause-tickets : goal.returns-in_default-clause-tickets
returns-in_default-clause-tickets g c =
    tickets_at c.args.tickets.now c.args.board.now c.args.members.items (map desk_view c.settle_all-desks.result.0.items) c.settle_all-desks.ensures.desks c.requires.complete

pub returns-in_default-clause-seats : goal.returns-in_default-clause-seats
returns-in_default-clause-seats g c =
    seats_at c.args.tickets.now c.args.board.now c.args.members.items (map desk_view c.settle_all-desks.result.0.items) c.settle_all-desks.ensures.desks c.requires.complete
