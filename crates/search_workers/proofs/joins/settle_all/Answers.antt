use Rattle.std.proofs.Common.{◌≡◌, ◌∙◌, flat_map, ap}
use Rattle.search_workers.specs.Agendas.{kept}
use Rattle.search_workers.proofs.Agendas.{kept_all}
use Rattle.search_workers.proofs.joins.settle_all.Goals as goal

pub returns-clause-left : goal.returns-clause-left
returns-clause-left c =
    let crew = c.args.crew.items in
    let same : flat_map kept c.deref.result.now ≡ flat_map (λ m. m.worker.agenda) crew =
    ap (flat_map kept) c.deref.ensures.value ∙ kept_all c.part_all-kits.result.1.items crew c.part_all-kits.ensures.agendas in
    rw (← c.part_all-kits.ensures.kits, ← same) c.settle_both.ensures
