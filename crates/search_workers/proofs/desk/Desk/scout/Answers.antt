use Rattle.std.proofs.Common.{[], refl}
use Rattle.bound_tree.specs.declared.node.Kind.TheVariants.{Whole}
use Rattle.search_workers.specs.Desks.{DeskView}
use Rattle.search_workers.specs.Seen.{desk_view}
use Rattle.search_workers.proofs.Standings.{after_is_up}
use Rattle.search_workers.proofs.Scouted.{exact_may_stand, better_is_exact, flown_in_order}
use Rattle.search_workers.proofs.desk.Desk.scout.Goals as goal

pub scout-found-requires-clause-exact : goal.scout-found-requires-clause-exact
scout-found-requires-clause-exact g c = (c.requires.order.sound [] [] []).exact

pub offer_if_better-requires-clause-stands : goal.offer_if_better-requires-clause-stands
offer_if_better-requires-clause-stands g c =
    exact_may_stand c.args.sc.now c.args.board.now.first c.scout-found.result c.recall_sound.ensures c.requires.first c.scout-found.ensures.exact

pub returns-clause-scouts : goal.returns-clause-scouts
returns-clause-scouts g c =
    let s = c.args.self.now.incumbent.standing in
    let t = c.scout-found.result in
    let offer = c.offer_if_better.ensures in
    record {
      stays = record { waiting = refl; records = refl };
      ticket = refl;
      seat = offer.seat;
      last = rw offer.standing (after_is_up s t.path (Whole t.value));
    }

pub returns-clause-order : goal.returns-clause-order
returns-clause-order g c =
    let p = c.args.sc.now in
    let s = c.args.self.now.incumbent.standing in
    let t = c.scout-found.result in
    let offer = c.offer_if_better.ensures in
    let new : DeskView = record {
      ticket = c.args.self.now.ticket;
      seat = c.offer_if_better.new.self.seat;
      records = c.args.self.now.records.items;
      waiting = c.args.self.now.stack;
      last = c.offer_if_better.new.self.standing;
      tables = c.scout-found.new.self;
      belief = c.offer_if_better.new.self.belief;
    } in
    flown_in_order p c.args.board.now.first (desk_view c.args.self.now) new c.recall_sound.ensures c.requires.order (record {
      scouts = returns-clause-scouts g c;
      exact = rw offer.standing (better_is_exact p s t (c.requires.order.sound [] [] []).exact c.scout-found.ensures.exact);
      looks = offer.looks;
      told = offer.told;
      tables = c.scout-found.ensures.made;
      belief = offer.belief;
    })
