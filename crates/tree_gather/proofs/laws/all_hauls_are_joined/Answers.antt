use Rattle.tree_gather.proofs.Hauls.{all_hauls_are_even}
use Rattle.tree_gather.proofs.Joined.{even_hauls_are_joined}
use Rattle.tree_gather.proofs.laws.all_hauls_are_joined.Goals as goal

pub returns-clause-even : goal.returns-clause-even
returns-clause-even c = all_hauls_are_even

pub returns-clause-joined : goal.returns-clause-joined
returns-clause-joined c = even_hauls_are_joined
