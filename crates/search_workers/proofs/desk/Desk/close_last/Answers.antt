use Rattle.std.proofs.Common.{[], refl, sym, ap, subst, ◌∙◌, arith, Contains}
use Rattle.search_workers.specs.Desks.{DeskView}
use Rattle.search_workers.specs.Seen.{desk_view}
use Rattle.list_laws.proofs.Wholes.{Contains-last}
use Rattle.search_workers.proofs.Recorded.{still_in_order, closed_in_order, closes_from}
use Rattle.search_workers.proofs.desk.Desk.close_last.Goals as goal

pub heed-requires-clause-exact : goal.heed-requires-clause-exact
heed-requires-clause-exact g c = (c.requires.order.sound [] [] []).exact

pub returns-in-Number-clause-order : goal.returns-in-Number-clause-order
returns-in-Number-clause-order g c =
    let p = c.args.sc.now in
    let made = c.record_last.ensures in
    let heed = c.heed.ensures in
    let draw = c.in-Number.ensures in
    let mid : DeskView = record {
      ticket = c.draw.new.seat;
      seat = c.heed.new.self.seat;
      records = c.reserve.new.self.items;
      waiting = c.args.self.now.stack;
      last = c.heed.new.self.standing;
      tables = c.args.self.now.scratch;
      belief = c.heed.new.self.belief;
    } in
    let records = c.args.self.now.records in
    closed_in_order p c.args.board.now.first (desk_view c.args.self.now) mid (desk_view c.record_last.new.self) c.in-Number.field-0 c.record_last.result
    c.recall_sound.ensures c.requires.order
    (record {
      few = omega (arith, records.ok.0, records.ok.1, records.small);
      exact = heed.exact;
      up = heed.up;
      drawn = ap (λ t. t.drawn) made.ticket ∙ draw.drawn;
      greater = draw.greater;
      looks = made.looks.0 ∙ heed.looks;
      heeded = rw made.looks.1 heed.heeded;
      told = λ told. made.told (heed.told told);
      tables = made.tables;
      belief = rw made.belief heed.belief;
    })
    c.reserve.ensures.items refl c.requires.legal (rw made.ticket draw.counts) made.records

pub returns-in-Number-clause-closes : goal.returns-in-Number-clause-closes
returns-in-Number-clause-closes g c =
    let made = c.record_last.ensures in
    let mid : DeskView = record {
      ticket = c.draw.new.seat;
      seat = c.heed.new.self.seat;
      records = c.reserve.new.self.items;
      waiting = c.args.self.now.stack;
      last = c.heed.new.self.standing;
      tables = c.args.self.now.scratch;
      belief = c.heed.new.self.belief;
    } in
    closes_from c.args.sc.now (desk_view c.args.self.now) mid (desk_view c.record_last.new.self) c.record_last.result c.reserve.ensures.items refl
    (rw made.ticket c.in-Number.ensures.again) made.records

pub returns-in-Full-clause-order : goal.returns-in-Full-clause-order
returns-in-Full-clause-order g c =
    let heed = c.heed.ensures in
    let draw = c.in-Full.ensures in
    let new : DeskView = record {
      ticket = c.draw.new.seat;
      seat = c.heed.new.self.seat;
      records = c.reserve.new.self.items;
      waiting = c.args.self.now.stack;
      last = c.heed.new.self.standing;
      tables = c.args.self.now.scratch;
      belief = c.heed.new.self.belief;
    } in
    let records = c.args.self.now.records in
    still_in_order c.args.sc.now c.args.board.now.first (desk_view c.args.self.now) new c.heed.new.self.standing c.in-Full.field-0 c.recall_sound.ensures c.requires.order
    (record {
      few = omega (arith, records.ok.0, records.ok.1, records.small);
      exact = heed.exact;
      up = heed.up;
      drawn = draw.drawn;
      greater = draw.greater;
      looks = heed.looks;
      heeded = heed.heeded;
      told = heed.told;
      tables = c.requires.order.tables;
      belief = heed.belief;
    })
    refl c.reserve.ensures.items refl draw.no_more

pub returns-in-Full-clause-closes : goal.returns-in-Full-clause-closes
returns-in-Full-clause-closes g c =
    let draw = c.in-Full.ensures in (
      record { waiting = refl; records = c.reserve.ensures.items },
      (c.in-Full.field-0, subst (λ ns. Contains ns c.in-Full.field-0) (sym draw.drawn) (Contains-last c.args.self.now.ticket.drawn c.in-Full.field-0), rw draw.seat.1 draw.full),
    )
