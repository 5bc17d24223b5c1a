use Rattle.longest_walk.proofs.Highest as lemmas
use Rattle.longest_walk.proofs.laws.highest_above.Goals as goal

pub returns : goal.returns
returns c = lemmas.highest_above
