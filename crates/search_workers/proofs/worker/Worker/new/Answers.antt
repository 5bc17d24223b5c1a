use Rattle.std.proofs.Common.{ap, ◌∙◌}
use Rattle.search_workers.specs.Agendas.{kept}
use Rattle.search_workers.specs.Seen.{desk_view}
use Rattle.search_workers.specs.Workers.{begun_by}
use Rattle.search_workers.proofs.Ready.{new_ready}
use Rattle.search_workers.proofs.worker.Worker.new.Goals as goal

pub returns-clause-ready : goal.returns-clause-ready
returns-clause-ready c =
    new_ready c.args.sc.now c.args.first.now c.args.kit (kept c.new-2.result) (desk_view c.in_ok-desk.desk) c.begin.new.stack c.in_ok-desk.ensures.order c.requires.kit.put c.new-2.ensures c.requires.kit.taken
    c.in_ok-desk.ensures.empty.1 (c.begin.ensures ∙ ap begun_by c.place.ensures.value)
