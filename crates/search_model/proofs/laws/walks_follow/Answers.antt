use Rattle.search_model.proofs.WalkLemmas.{walks_follow}
use Rattle.search_model.proofs.laws.walks_follow.Goals as goal

pub returns : goal.returns
returns c = walks_follow
