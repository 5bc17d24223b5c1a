use Rattle.text_rows.specs.Fields.{fields_of}
use Rattle.scenario_text.proofs.taking.take_first.Goals as goal

pub returns-in-Some : goal.returns-in-Some
returns-in-Some c =
    let scanned = rw c.in-Some.is at c.in_ok-scan_some_pairs.ensures in
    c.set_first.ensures (fields_of c.args.text.now) scanned.0 scanned.1
