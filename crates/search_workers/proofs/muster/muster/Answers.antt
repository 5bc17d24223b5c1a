use Rattle.std.proofs.Common.{List, All, rules, subst, sym}
use Rattle.search_model.specs.declared.standing.Standing.{Standing}
use Rattle.bound_tree.specs.Close.{IsExact}
use Rattle.node_tickets.specs.Seats.{SeatView as TicketView, IsFresh}
use Rattle.search_workers.specs.Workers.{IsReady}
use Rattle.search_workers.proofs.Mustered.{exact_fits, all_may_go}
use Rattle.search_workers.proofs.muster.muster.Goals as goal

pub start-requires-2-clause-value : goal.start-requires-2-clause-value
start-requires-2-clause-value c = exact_fits c.args.sc.now c.args.first.now c.recall_sound.ensures c.requires.exact

pub returns-clause-ready : goal.returns-clause-ready
returns-clause-ready c =
    all_may_go c.args.sc.now c.in_ok-tickets.tickets c.in_ok-board.board c.in_ok-members.members.items
    (search rules)
    (subst (λ (seats : List TicketView). All IsFresh seats) (sym c.in_ok-members.ensures.tickets) c.in_ok-tickets.ensures.fresh)
    (subst (IsExact c.args.sc.now) (sym c.in_ok-board.ensures.first) c.requires.exact)
    (subst (λ (s : Standing). All (λ m. IsReady c.args.sc.now s m.worker) c.in_ok-members.members.items) (sym c.in_ok-board.ensures.first) c.in_ok-members.ensures.ready)
