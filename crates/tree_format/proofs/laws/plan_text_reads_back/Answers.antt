use Rattle.tree_format.proofs.ReadsBack.{plan_text_reads_back}
use Rattle.tree_format.proofs.laws.plan_text_reads_back.Goals as goal

pub returns : goal.returns
returns c = plan_text_reads_back
