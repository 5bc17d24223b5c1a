use Rattle.std.proofs.Common.{◌+◌, ◌-◌, [], length}
use Rattle.search_workers.specs.Seen.{desk_view}
use Rattle.search_workers.specs.Desks.{IsSameDesk}
use Rattle.search_workers.specs.Finish.{MayClose, WorksOff}
use Rattle.search_workers.proofs.finish.close_all.Given as goal

-- the work so far, after which more may be closed
abbrev pub invariant-closing : goal.invariant-closing
invariant-closing g l = record {
  may : MayClose l.sc l.tickets l.board (desk_view l.desk);
  works : WorksOff l.sc [] (desk_view l.initial.desk) [] (desk_view l.desk);
  same : IsSameDesk (desk_view l.initial.desk) (desk_view l.desk);
}

-- how many records may still be made
abbrev pub decreases-closing : goal.decreases-closing
decreases-closing g l = l.tickets.limit + 1 - length l.desk.records.items
