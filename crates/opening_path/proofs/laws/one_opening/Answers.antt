use Rattle.opening_path.proofs.OneOpening.{one_opening}
use Rattle.opening_path.proofs.laws.one_opening.Goals as goal

pub returns : goal.returns
returns c = one_opening
