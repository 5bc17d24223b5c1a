use Rattle.std.proofs.Common.{List, ℕ, refl, sym, subst}
use Rattle.search_workers.specs.declared.left.Left.TheVariants.{NoMemory}
use Rattle.search_workers.specs.Agendas.{kept}
use Rattle.search_workers.specs.Desks.{DeskView}
use Rattle.search_workers.specs.Seen.{desk_view, worker_view}
use Rattle.search_workers.specs.Turns.{Turns}
use Rattle.search_workers.specs.Workers.{IsReady, Went}
use Rattle.search_workers.proofs.Ready.{turned_short}
use Rattle.search_workers.proofs.run.step_with_room.Goals as goal

-- what is on the agenda is the same where there is room
pub step-requires-clause-ready : goal.step-requires-clause-ready
step-requires-clause-ready g c =
    subst (λ (ag : List (List ℕ)). IsReady c.args.sc.now c.args.board.now.first (record { kit = c.args.kit.now; agenda = ag; desk = desk_view c.args.desk.now }))
    (sym c.make_room.ensures.kept) c.requires.ready

pub returns-then-is_err : goal.returns-then-is_err
returns-then-is_err g c =
    let d : DeskView = desk_view c.args.desk.now in
    subst (λ (ag : List (List ℕ)). Went c.args.sc.now c.args.board.now.first (worker_view c.args.kit.now c.args.agenda.now c.args.desk.now) NoMemory (record { kit = c.args.kit.now; agenda = ag; desk = d }))
    (sym c.make_room.ensures.kept)
    (turned_short c.args.sc.now c.args.board.now.first c.args.kit.now (kept c.args.agenda.now) d d c.requires.ready c.requires.ready.order
    (record { tickets = (refl, refl); stands_for = refl; seat = (refl, refl) }) (record { waiting = refl; records = refl }) c.requires.may)

pub returns : goal.returns
returns g c =
    subst (λ (ag : List (List ℕ)). Turns c.args.sc.now c.args.board.now.first (record { kit = c.args.kit.now; agenda = ag; desk = desk_view c.args.desk.now }) c.step.result
    (worker_view c.step.new.kit c.step.new.agenda c.step.new.desk)) c.make_room.ensures.kept c.step.ensures
