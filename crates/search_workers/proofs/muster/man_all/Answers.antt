use Rattle.std.proofs.Common.{rules, ◌≡◌, [], ◌∷◌, ◌++◌, subst, All}
use Rattle.steal_pool.specs.News.{IsFresh as IsFreshKit}
use Rattle.list_laws.proofs.Halves.{All-front}
use Rattle.node_tickets.specs.Seats.{IsFresh}
use Rattle.incumbent_board.specs.Boards.{IsNewSeat}
use Rattle.search_workers.specs.Workers.{IsReady}
use Rattle.search_workers.specs.declared.left.Left.TheVariants.{Idle}
use Rattle.search_workers.specs.declared.crew.Member.{Member}
use Rattle.search_workers.proofs.Mustered.{manned, all_manned, one_more}
use Rattle.search_workers.proofs.muster.man_all.Goals as goal

pub loop-kit-preserved : goal.loop-kit-preserved
loop-kit-preserved c =
    let crew = c.loop-kit.crew.items in
    let more = c.push.new.self.items in
    let kits : c.loop-kit.kits.items ≡ c.pop.new.self.items ++ c.in-Some.kit ∷ [] = search rules in
    let tickets : c.loop-kit.tickets.items ≡ c.pop-in-Some.new.self.items ++ c.in-Some-pop.ticket ∷ [] = search rules in
    let seats : c.loop-kit.seats.items ≡ c.pop-in-Some-2.new.self.items ++ c.in-Some-pop-2.seat ∷ [] = search rules in
    let m : Member = record { worker = c.in_ok-worker.worker; left = Idle } in
    record {
      kits = manned (λ (m : Member). m.worker.kit) c.loop-kit.kits.items c.pop.new.self.items crew more c.in-Some.kit m c.args.kits.items kits (search rules) (search rules) c.loop-kit.invariant.kits;
      tickets = manned (λ (m : Member). m.worker.desk.ticket) c.loop-kit.tickets.items c.pop-in-Some.new.self.items crew more c.in-Some-pop.ticket m c.args.tickets.items tickets (search rules) (search rules) c.loop-kit.invariant.tickets;
      seats = manned (λ (m : Member). m.worker.desk.seat) c.loop-kit.seats.items c.pop-in-Some-2.new.self.items crew more c.in-Some-pop-2.seat m c.args.seats.items seats (search rules) (search rules) c.loop-kit.invariant.seats;
      many = search rules;
      fresh_kits = All-front IsFreshKit c.pop.new.self.items (c.in-Some.kit ∷ []) (subst (All IsFreshKit) kits c.loop-kit.invariant.fresh_kits);
      fresh_tickets = All-front IsFresh c.pop-in-Some.new.self.items (c.in-Some-pop.ticket ∷ []) (subst (All IsFresh) tickets c.loop-kit.invariant.fresh_tickets);
      new_seats = All-front (IsNewSeat c.args.first.now) c.pop-in-Some-2.new.self.items (c.in-Some-pop-2.seat ∷ []) (subst (All (IsNewSeat c.args.first.now)) seats c.loop-kit.invariant.new_seats);
      ready = one_more (λ m. IsReady c.args.sc.now c.args.first.now m.worker) crew more m (search rules) c.loop-kit.invariant.ready c.in_ok-worker.ensures.ready;
    }

pub returns-clause-kits : goal.returns-clause-kits
returns-clause-kits c =
    all_manned (λ (m : Member). m.worker.kit) c.loop-kit.kits.items c.loop-kit.crew.items c.reverse.new.self.items c.args.kits.items (search rules) (search rules) c.loop-kit.invariant.kits

pub returns-clause-tickets : goal.returns-clause-tickets
returns-clause-tickets c =
    all_manned (λ (m : Member). m.worker.desk.ticket) c.loop-kit.tickets.items c.loop-kit.crew.items c.reverse.new.self.items c.args.tickets.items (search rules) (search rules) c.loop-kit.invariant.tickets

pub returns-clause-seats : goal.returns-clause-seats
returns-clause-seats c =
    all_manned (λ (m : Member). m.worker.desk.seat) c.loop-kit.seats.items c.loop-kit.crew.items c.reverse.new.self.items c.args.seats.items (search rules) (search rules) c.loop-kit.invariant.seats
