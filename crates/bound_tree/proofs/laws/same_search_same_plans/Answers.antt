use Rattle.search_model.proofs.SameSearch.{AreSame-sym}
use Rattle.bound_tree.proofs.SamePlans.{same_is_alike, accepts_same}
use Rattle.bound_tree.proofs.laws.same_search_same_plans.Goals as goal

pub returns : goal.returns
returns c = record { either_way = AreSame-sym; alike = same_is_alike; accepted = accepts_same }
