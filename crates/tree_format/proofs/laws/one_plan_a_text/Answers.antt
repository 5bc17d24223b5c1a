use Rattle.tree_format.proofs.ReadsBack.{one_plan_a_text}
use Rattle.tree_format.proofs.laws.one_plan_a_text.Goals as goal

pub returns : goal.returns
returns c = one_plan_a_text
