use Rattle.scenario_text.proofs.Back.{canonical_reads_back}
use Rattle.scenario_text.proofs.laws.canonical_text_reads_back.Goals as goal

pub returns : goal.returns
returns c = canonical_reads_back
