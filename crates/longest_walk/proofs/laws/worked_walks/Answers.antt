use Rattle.longest_walk.proofs.Examples as lemmas
use Rattle.longest_walk.proofs.laws.worked_walks.Goals as goal

pub returns : goal.returns
returns c = lemmas.worked_walks
