use Rattle.node_tickets.proofs.Kept.{AreAllSeats-kept}
use Rattle.worker_tests.proofs.tickets.draw_in_threads.Goals as goal

pub returns : goal.returns
returns g c = AreAllSeats-kept c.args.tickets.now c.args.seats.now c.draw_by_each.new.seats c.draw_by_each.ensures.many c.draw_by_each.ensures.each c.requires.all
