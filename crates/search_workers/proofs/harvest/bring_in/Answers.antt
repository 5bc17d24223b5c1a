use Rattle.std.proofs.Common.{[], ◌∷◌, map, arith}
use Rattle.search_workers.specs.Desks.{DeskView}
use Rattle.search_workers.specs.Seen.{desk_view}
use Rattle.search_workers.specs.Settled.{closed_at, waiting_at}
use Rattle.search_workers.proofs.BroughtIn.{flat_more, map_more, waiting_more, best_more, grown}
use Rattle.search_workers.proofs.harvest.bring_in.Goals as goal

pub loop-desk-preserved : goal.loop-desk-preserved
loop-desk-preserved c =
    let so_far = c.loop-desk.invariant in
    let ds = c.loop-desk.yielded in
    let d = c.in-Some.desk in
    let adds = c.add_desk.ensures.adds in
    let room = c.add_desk.ensures.room in
    record {
      closed = λ fits. grown _ _ (desk_view d).records (closed_at (map desk_view ds)) _ (adds.closed fits) (so_far.closed (adds.before fits)) (flat_more (λ d. d.records) ds d);
      waiting = λ fits. grown _ _ (desk_view d).waiting (waiting_at c.args.tasks.items (map desk_view ds)) _ (adds.waiting fits) (so_far.waiting (adds.before fits)) (waiting_more c.args.tasks.items ds d);
      best = best_more c.args.first.now ds d c.loop-desk.all.best c.add_desk.new.harvest.best so_far.best adds.best;
      tickets = grown _ _ ((desk_view d).ticket ∷ []) (map (λ (d : DeskView). d.ticket) (map desk_view ds)) _ adds.tickets so_far.tickets (map_more (λ d. d.ticket) ds d);
      seats = grown _ _ ((desk_view d).seat ∷ []) (map (λ (d : DeskView). d.seat) (map desk_view ds)) _ adds.seats so_far.seats (map_more (λ d. d.seat) ds d);
      room = (omega (arith, so_far.room.0, room.0), omega (arith, so_far.room.1, room.1));
    }
