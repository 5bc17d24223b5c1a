use Rattle.std.proofs.Common.{map}
use Rattle.search_workers.specs.Seen.{desk_view}
use Rattle.search_workers.proofs.Settling.{all_legal, first_empty, first_may, settled_on, ends_on}
use Rattle.search_workers.proofs.finish.take_up_first.Goals as goal

pub take_up-requires-clause-may : goal.take_up-requires-clause-may
take_up-requires-clause-may g c =
    first_may c.args.sc.now c.args.tickets.now c.args.board.now c.args.tasks.now.items c.args.desks.now.items c.index_mut-desk.result.now c.requires.some c.index_mut-desk.ensures.value
    c.requires.settled c.requires.idle

pub take_up-requires-clause-legal : goal.take_up-requires-clause-legal
take_up-requires-clause-legal g c =
    (all_legal c.args.sc.now c.args.board.now.first c.args.tasks.now.items (map desk_view c.args.desks.now.items) c.recall_sound.ensures c.requires.settled.order c.requires.settled.even).0

pub take_up-requires-clause-empty : goal.take_up-requires-clause-empty
take_up-requires-clause-empty g c =
    first_empty c.args.sc.now c.args.tickets.now c.args.board.now c.args.tasks.now.items c.args.desks.now.items c.index_mut-desk.result.now c.requires.some c.index_mut-desk.ensures.value
    c.requires.settled c.requires.idle

pub returns-clause-settled : goal.returns-clause-settled
returns-clause-settled g c =
    settled_on c.args.sc.now c.args.tickets.now c.args.board.now c.args.tasks.now.items c.take_up.new.tasks.items c.args.desks.now.items c.index_mut-desk.result.now c.take_up.new.desk
    c.requires.some c.index_mut-desk.ensures.value c.requires.settled c.take_up.ensures.works c.take_up.ensures.same c.take_up.ensures.order

pub returns-clause-ends : goal.returns-clause-ends
returns-clause-ends g c = ends_on c.take_up.result c.take_up.new.tasks.items c.args.desks.now.items c.take_up.new.desk c.requires.some c.requires.idle c.take_up.ensures.left
