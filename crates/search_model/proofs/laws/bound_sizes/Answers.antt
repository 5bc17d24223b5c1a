use Rattle.search_model.proofs.BoundSizes.{mean_size, tangent_size}
use Rattle.search_model.proofs.laws.bound_sizes.Goals as goal

pub returns-clause-mean : goal.returns-clause-mean
returns-clause-mean c = mean_size

pub returns-clause-tangent : goal.returns-clause-tangent
returns-clause-tangent c = tangent_size
