use Rattle.search_model.proofs.WalkLemmas.{continuations_are}
use Rattle.search_model.proofs.laws.continuations_are.Goals as goal

pub returns : goal.returns
returns c = continuations_are
