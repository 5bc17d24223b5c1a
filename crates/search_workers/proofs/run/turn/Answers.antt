use Rattle.std.proofs.Common.{subst}
use Rattle.search_workers.specs.Agendas.{kept}
use Rattle.search_workers.specs.Seen.{desk_view}
use Rattle.search_workers.specs.Turns.{HasWork}
use Rattle.search_workers.proofs.Ready.{took_ready, took_idle}
use Rattle.search_workers.proofs.run.turn.Goals as goal

pub returns-then-not-has_work : goal.returns-then-not-has_work
returns-then-not-has_work g c =
    let p = c.args.sc.now in
    let kit' = c.has_work.new.kit in
    let ws = c.has_work.new.stack in
    rw c.has_work.ensures.ticket (took_idle p c.args.board.now.first c.args.kit.now kit' (kept c.args.agenda.now) (kept c.has_work.new.agenda) (desk_view c.args.desk.now) ws c.requires.ready c.has_work.ensures.took c.has_work.ensures.room
    c.requires.may (subst (HasWork p kit' (kept c.has_work.new.agenda) ws) c.if-not-has_work.true c.has_work.ensures.work))

pub step_with_room-left-requires-clause-ready : goal.step_with_room-left-requires-clause-ready
step_with_room-left-requires-clause-ready g c =
    let p = c.args.sc.now in
    let kit' = c.has_work.new.kit in
    let ws = c.has_work.new.stack in
    let work = subst (HasWork p kit' (kept c.has_work.new.agenda) ws) c.if-not-has_work.false c.has_work.ensures.work in
    rw c.has_work.ensures.ticket
    (took_ready p c.args.board.now.first c.args.kit.now kit' (kept c.args.agenda.now) (kept c.has_work.new.agenda) (desk_view c.args.desk.now) ws c.requires.ready c.has_work.ensures.took c.has_work.ensures.room work.1)
