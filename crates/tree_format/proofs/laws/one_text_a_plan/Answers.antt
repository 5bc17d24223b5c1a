use Rattle.tree_format.proofs.Spelled.{one_text_a_plan}
use Rattle.tree_format.proofs.laws.one_text_a_plan.Goals as goal

pub returns : goal.returns
returns c = one_text_a_plan
