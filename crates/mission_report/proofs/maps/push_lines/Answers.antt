use Rattle.std.proofs.lemmas.Result.{on_ok_weaker}
use Rattle.exact_parts.proofs.AppendLemmas.{stands_first, stands_next, stands_last}
use Rattle.mission_report.proofs.TextParts.{map_parts}
use Rattle.mission_report.proofs.maps.push_lines.Goals as goal

pub returns-clause-ok : goal.returns-clause-ok
returns-clause-ok c =
    let version = stands_next _ _ (stands_first (map_parts c.args.sc.now c.args.flown.now)) c.in_ok-push_row.ensures.ok in
    let periods = stands_next _ _ version c.in_ok-push_looks.ensures.ok in
    on_ok_weaker _ (stands_last periods) c.push_row-2.ensures.ok
