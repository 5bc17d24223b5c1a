use Rattle.search_model.proofs.BoundSizes.{no_tangent_is_cut_off}
use Rattle.search_model.proofs.laws.no_tangent_is_cut_off.Goals as goal

pub returns : goal.returns
returns c = no_tangent_is_cut_off
