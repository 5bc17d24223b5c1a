use Rattle.std.proofs.Common.{flat_map}
use Rattle.steal_pool.specs.Kits.{put_of, taken_of}
use Rattle.search_workers.specs.Agendas.{kept}
use Rattle.search_workers.proofs.Agendas.{settled_both}
use Rattle.search_workers.proofs.joins.settle_both.Goals as goal

pub returns : goal.returns
returns c =
    settled_both (flat_map put_of c.args.kits.items) (flat_map taken_of c.args.kits.items) c.in_ok-tasks.tasks.items (flat_map kept c.args.agendas.now) c.add_all.new.tasks.items
    c.in_ok-tasks.ensures c.in_ok-add_all.ensures
