use Rattle.tree_format.proofs.ReadsBack.{one_gap_a_text}
use Rattle.tree_format.proofs.laws.one_gap_a_text.Goals as goal

pub returns : goal.returns
returns c = one_gap_a_text
