use Rattle.std.proofs.Common.{refl}
use Rattle.search_workers.specs.Search.{plan_of, StopsAtLimit}
use Rattle.plan_command.proofs.Certified.{opening_exact, searched_certified, more_live, told_full}
use Rattle.plan_command.proofs.planning.plan_from_opening.Goals as goal

pub search-requires-clause-exact : goal.search-requires-clause-exact
search-requires-clause-exact g c = λ κs ls. opening_exact c.args.sc.now c.in_ok-first.first c.in_ok-first.ensures.path c.in_ok-first.ensures.value

pub returns-in-Ok : goal.returns-in-Ok
returns-in-Ok g c =
    let found = c.in-Ok.ensures in
    let sc = c.args.sc.now in
    let first = c.in_ok-first.first in
    rw c.plan_found.ensures ((searched_certified sc first (plan_of sc c.in-Ok.found) c.in_ok-first.ensures.path c.in_ok-first.ensures.value found.best found.accepted found.branches, found.few))

pub returns-in-Err-Full : goal.returns-in-Err-Full
returns-in-Err-Full g c =
    let sc = c.args.sc.now in
    let first = c.in_ok-first.first in
    let more = (told_full _ _ c.in-Err-Full.field-0-is (StopsAtLimit sc first c.args.nodes) c.in-Err-Full.ensures.full).more in
    (refl, (first.path, c.in_ok-first.ensures.path, more_live sc first c.args.nodes c.in_ok-first.ensures.value more))
