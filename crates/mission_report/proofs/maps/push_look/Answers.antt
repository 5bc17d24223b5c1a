use Rattle.mission_report.proofs.TextParts.{block_done}
use Rattle.mission_report.proofs.maps.push_look.Goals as goal

pub returns-clause-ok : goal.returns-clause-ok
returns-clause-ok c =
    block_done c.args.sc.now c.args.belief.now c.args.belief.now.period c.args.position _ _ _ c.push_masses.result (rw c.period.ensures at c.in_ok-push_looked.ensures.ok) c.push_masses.ensures.ok
