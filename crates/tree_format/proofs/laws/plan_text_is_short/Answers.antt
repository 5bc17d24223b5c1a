use Rattle.tree_format.proofs.TextLengths.{plan_text_is_short}
use Rattle.tree_format.proofs.laws.plan_text_is_short.Goals as goal

pub returns : goal.returns
returns c = plan_text_is_short
