use Rattle.std.proofs.Common.{◌≡◌, length, get_or, rules}
use Rattle.search_workers.specs.Runs.{Runs}
use Rattle.list_laws.proofs.Matched.{AllZip-from_places}
use Rattle.search_workers.proofs.Gone.{runs_same}
use Rattle.search_workers.proofs.crew.go_all.Goals as goal

pub returns : goal.returns
returns g c =
    let p = c.args.sc.now in
    let first = c.args.board.now.first in
    let many : length c.for_each_mut.new.s ≡ length c.args.crew.now = search rules in
    AllZip-from_places (Runs p first) c.args.crew.now c.for_each_mut.new.s many (λ i m l.
    let e = (c.for_each_mut.ensures i m l).1 in
    let run : Runs p first e.argument.now e.after_call.now = search (rules, e.call) in
    runs_same p first e.argument.now e.after_call.now (get_or c.args.crew.now i m) (get_or c.for_each_mut.new.s i m) e.argument_is e.left run)
