use Rattle.std.proofs.Common.{[], refl}
use Rattle.search_workers.specs.Seen.{desk_view}
use Rattle.search_workers.specs.Desks.{DeskView}
use Rattle.bound_tree.specs.declared.node.Kind.TheVariants.{Branch}
use Rattle.search_workers.proofs.Worked.{works_none, works_end, works_branch, branch_in_order, branch_legal, still_may, recorded_one, end_legal}
use Rattle.search_workers.proofs.finish.close_one.Goals as goal

pub returns-in-Branches-clause-works : goal.returns-in-Branches-clause-works
returns-in-Branches-clause-works g c =
    works_branch c.args.sc.now (desk_view c.args.desk.now) (desk_view c.close_last.new.self) c.in-Branches.prefix c.stack_children.new.stack
    c.in-Branches.ensures.closes.0 c.stack_children.ensures

pub returns-in-Branches-clause-order : goal.returns-in-Branches-clause-order
returns-in-Branches-clause-order g c =
    branch_in_order c.args.sc.now c.args.board.now.first (desk_view c.args.desk.now) (desk_view c.close_last.new.self) c.in-Branches.prefix c.stack_children.new.stack
    c.recall_sound.ensures c.requires.may.legal c.requires.may.order.room c.in-Branches.ensures.order c.in-Branches.ensures.closes.0 c.stack_children.ensures

pub returns-in-Branches-clause-left : goal.returns-in-Branches-clause-left
returns-in-Branches-clause-left g c =
    let p = c.args.sc.now in
    let old : DeskView = desk_view c.args.desk.now in
    let mid : DeskView = desk_view c.close_last.new.self in
    let new : DeskView = record mid { waiting = c.stack_children.new.stack } in
    let closes = c.in-Branches.ensures.closes in
    let s = c.in-Branches.ensures.same in (
      still_may p c.args.tickets.now c.args.board.now old new c.requires.may
          (record { tickets = s.tickets; stands_for = s.stands_for; seat = s.seat })
          closes.1
          (returns-in-Branches-clause-order g c)
          (branch_legal p c.args.board.now.first old mid c.in-Branches.prefix c.stack_children.new.stack
          c.recall_sound.ensures c.requires.may.legal c.requires.may.order.room c.in-Branches.ensures.order closes.0 c.stack_children.ensures),
      recorded_one old mid new c.in-Branches.prefix Branch closes.0 refl,
    )

pub returns-in-Ends-clause-works : goal.returns-in-Ends-clause-works
returns-in-Ends-clause-works g c =
    let e = c.in-Ends.ensures.closes.0 in
    works_end c.args.sc.now (desk_view c.args.desk.now) (desk_view c.close_last.new.self) e.0 e.1 e.2 e.3

pub returns-in-Ends-clause-left : goal.returns-in-Ends-clause-left
returns-in-Ends-clause-left g c =
    let old : DeskView = desk_view c.args.desk.now in
    let new : DeskView = desk_view c.close_last.new.self in
    let e = c.in-Ends.ensures.closes.0 in (
      still_may c.args.sc.now c.args.tickets.now c.args.board.now old new c.requires.may c.in-Ends.ensures.same c.in-Ends.ensures.closes.1 c.in-Ends.ensures.order
          (end_legal c.args.sc.now old new e.0 e.1 e.3 c.requires.may.legal),
      recorded_one old new new e.0 e.1 e.3 refl,
    )

pub returns-in-Full-clause-works : goal.returns-in-Full-clause-works
returns-in-Full-clause-works g c =
    let s = c.in-Full.ensures.closes.0 in
    works_none c.args.sc.now [] (desk_view c.args.desk.now) (desk_view c.close_last.new.self) s.records s.waiting

pub returns-in-NoMemory-clause-works : goal.returns-in-NoMemory-clause-works
returns-in-NoMemory-clause-works g c =
    let s = c.in-NoMemory.ensures.closes.0 in
    works_none c.args.sc.now [] (desk_view c.args.desk.now) (desk_view c.close_last.new.self) s.records s.waiting
