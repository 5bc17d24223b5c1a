use Rattle.tree_format.proofs.Spelled.{one_text_a_gap}
use Rattle.tree_format.proofs.laws.one_text_a_gap.Goals as goal

pub returns : goal.returns
returns c = one_text_a_gap
