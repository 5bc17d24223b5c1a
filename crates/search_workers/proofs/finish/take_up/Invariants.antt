use Rattle.std.proofs.Common.{◌≡◌, [], length, All}
use Rattle.search_model.specs.Legal.{IsLegal}
use Rattle.search_workers.specs.Seen.{desk_view}
use Rattle.search_workers.specs.Desks.{IsSameDesk}
use Rattle.search_workers.specs.Finish.{MayClose, WorksOff}
use Rattle.search_workers.proofs.finish.take_up.Given as goal

-- the work so far, after which nothing waits and more tasks may be taken up
abbrev pub invariant-tasks : goal.invariant-tasks
invariant-tasks g l = record {
  may : MayClose l.sc l.tickets l.board (desk_view l.desk);
  works : WorksOff l.sc l.initial.tasks.items (desk_view l.initial.desk) l.tasks.items (desk_view l.desk);
  same : IsSameDesk (desk_view l.initial.desk) (desk_view l.desk);
  legal : All (IsLegal l.sc) l.tasks.items;
  empty : l.desk.stack ≡ [];
}

-- how many tasks are left
abbrev pub decreases-tasks : goal.decreases-tasks
decreases-tasks g l = length l.tasks.items
