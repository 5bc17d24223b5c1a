use Rattle.std.proofs.Common.{arith, length, ◌≤◌, ◌∙◌}
use Rattle.search_workers.specs.Seen.{desk_view}
use Rattle.search_workers.proofs.Limits.{few_records}
use Rattle.search_workers.proofs.run.run.Goals as goal

pub turns-smaller : goal.turns-smaller
turns-smaller g c =
    let turned = c.in_default.ensures in
    let few : length c.turn.new.desk.records.items ≤ c.turn.new.desk.ticket.limit = few_records c.args.sc.now c.args.board.now.first (desk_view c.turn.new.desk) turned.0.order turned.2 in
    let limit = turned.1.desk.tickets.1 ∙ c.turns.invariant.ticket.1 in
    let more = turned.3 in
    omega (arith, few, limit, more)
