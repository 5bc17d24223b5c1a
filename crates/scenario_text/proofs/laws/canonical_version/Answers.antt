use Rattle.scenario_text.proofs.Plain.{canonical_version}
use Rattle.scenario_text.proofs.laws.canonical_version.Goals as goal

pub returns : goal.returns
returns c = canonical_version
