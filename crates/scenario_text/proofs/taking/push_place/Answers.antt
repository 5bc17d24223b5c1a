use Rattle.std.proofs.Common.{refl}
use Rattle.scenario_text.proofs.taking.push_place.Goals as goal

pub returns : goal.returns
returns c =
    let names = c.in_ok-push_name.ensures in
    let moves = c.in_ok-push_no_moves.ensures in
    let rows = c.in_ok-push_no_parts.ensures in
    let overlook = c.in_ok-push.ensures.items in
    rw (c.requires.version, names, moves, rows, overlook) refl
