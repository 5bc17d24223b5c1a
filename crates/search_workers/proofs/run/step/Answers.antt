use Rattle.search_workers.specs.Agendas.{kept}
use Rattle.search_workers.specs.Seen.{desk_view}
use Rattle.search_workers.proofs.Ready.{turned_end, turned_branch, turned_full, turned_short}
use Rattle.search_workers.proofs.run.step.Goals as goal

pub returns-in-Ends : goal.returns-in-Ends
returns-in-Ends g c =
    let closes = c.in-Ends.ensures.closes in
    turned_end c.args.sc.now c.args.board.now.first c.args.kit.now (kept c.args.agenda.now) (desk_view c.args.desk.now) (desk_view c.close_last.new.self) closes.0.0
    c.recall_sound.ensures c.requires.ready c.in-Ends.ensures.order c.in-Ends.ensures.same closes.1 closes.0.1 closes.0.2 closes.0.3

pub returns-in-Branches : goal.returns-in-Branches
returns-in-Branches g c =
    let closes = c.in-Branches.ensures.closes in
    let p = c.args.sc.now in
    let q = c.in-Branches.prefix in
    turned_branch p c.args.board.now.first c.args.kit.now (kept c.args.agenda.now) (desk_view c.args.desk.now) (desk_view c.close_last.new.self) q
    c.recall_sound.ensures c.requires.ready c.in-Branches.ensures.order c.in-Branches.ensures.same closes.1
    c.hand_on.new.kit (kept c.hand_on.new.agenda) c.hand_on.new.stack c.hand_on.new.scratch c.hand_on.ensures.made closes.0 c.hand_on.ensures.hands_on

pub returns-in-Full : goal.returns-in-Full
returns-in-Full g c =
    let closes = c.in-Full.ensures.closes in
    turned_full c.args.sc.now c.args.board.now.first c.args.kit.now (kept c.args.agenda.now) (desk_view c.args.desk.now) (desk_view c.close_last.new.self)
    c.requires.ready c.in-Full.ensures.order c.in-Full.ensures.same closes.0 c.requires.some closes.1

pub returns-in-NoMemory : goal.returns-in-NoMemory
returns-in-NoMemory g c =
    let closes = c.in-NoMemory.ensures.closes in
    turned_short c.args.sc.now c.args.board.now.first c.args.kit.now (kept c.args.agenda.now) (desk_view c.args.desk.now) (desk_view c.close_last.new.self)
    c.requires.ready c.in-NoMemory.ensures.order c.in-NoMemory.ensures.same closes.0 closes.1
