use Rattle.scenario_text.proofs.KindOrder.{kinds_in_order}
use Rattle.scenario_text.proofs.laws.kinds_in_order.Goals as goal

pub returns : goal.returns
returns c = kinds_in_order
