use Rattle.search_model.proofs.Rates.{one_rate_is_rate}
use Rattle.search_model.proofs.laws.one_rate_is_rate.Goals as goal

pub returns : goal.returns
returns c = one_rate_is_rate
