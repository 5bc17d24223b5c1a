use Rattle.search_core.proofs.Live.{balanced_is_live}
use Rattle.search_core.proofs.laws.balanced_is_live.Goals as goal

pub returns : goal.returns
returns c = balanced_is_live
