use Rattle.scenario_text.proofs.Back.{canonical_front_reads_back}
use Rattle.scenario_text.proofs.laws.canonical_front_reads_back.Goals as goal

pub returns : goal.returns
returns c = canonical_front_reads_back
