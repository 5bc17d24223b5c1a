use Rattle.std.proofs.Common.{[], length}
use Rattle.search_workers.specs.Seen.{desk_view}
use Rattle.search_workers.proofs.Worked.{works_then, same_then, fewer_left}
use Rattle.search_workers.proofs.finish.close_all.Goals as goal

pub returns-in-Some-clause-works : goal.returns-in-Some-clause-works
returns-in-Some-clause-works g c =
    works_then c.args.sc.now [] (desk_view c.args.desk.now) [] (desk_view c.closing.desk) [] (desk_view c.close_one.new.desk) c.closing.invariant.works c.close_one.ensures.works

pub closing-smaller : goal.closing-smaller
closing-smaller g c =
    fewer_left c.args.sc.now c.args.tickets.now c.args.board.now (desk_view c.close_one.new.desk) (length c.closing.desk.records.items) c.in_default.ensures.left.0 c.in_default.ensures.left.1

pub closing-preserved : goal.closing-preserved
closing-preserved g c = record {
  may = c.in_default.ensures.left.0;
  works = works_then c.args.sc.now [] (desk_view c.args.desk.now) [] (desk_view c.closing.desk) [] (desk_view c.close_one.new.desk) c.closing.invariant.works c.close_one.ensures.works;
  same = same_then (desk_view c.args.desk.now) (desk_view c.closing.desk) (desk_view c.close_one.new.desk) c.closing.invariant.same c.close_one.ensures.same;
}
