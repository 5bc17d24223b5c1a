use Rattle.std.proofs.Common.{subst}
use Rattle.search_workers.specs.Agendas.{kept}
use Rattle.search_workers.specs.Seen.{desk_view, worker_view}
use Rattle.search_workers.specs.Workers.{WorkerView, Went}
use Rattle.search_workers.proofs.Scouted.{went_from}
use Rattle.search_workers.proofs.worker.Worker.go.Goals as goal

pub returns : goal.returns
returns g c =
    let p = c.args.sc.now in
    let first = c.args.board.now.first in
    let new : WorkerView = worker_view c.run.new.kit c.run.new.agenda c.run.new.desk in
    subst (λ (w : WorkerView). Went p first w c.run.result new) c.self.view_is
    (went_from p first c.self.inside.kit (kept c.self.inside.agenda) (desk_view c.self.inside.desk) (desk_view c.scout_first.new.desk) c.run.result new c.scout_first.ensures.scouts c.run.ensures)
