use Rattle.std.proofs.Common.{refl}
use Rattle.scenario_text.proofs.taking.push_target.Goals as goal

pub returns : goal.returns
returns c =
    let names = c.in_ok-push_name.ensures in
    let rows = c.in_ok-push_no_parts.ensures in
    rw (c.requires.version, names, rows) refl
