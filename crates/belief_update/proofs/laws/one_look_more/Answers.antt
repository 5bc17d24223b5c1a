use Rattle.belief_update.proofs.OneMore as lemmas
use Rattle.belief_update.proofs.laws.one_look_more.Goals as goal

pub returns : goal.returns
returns c = lemmas.one_look_more
