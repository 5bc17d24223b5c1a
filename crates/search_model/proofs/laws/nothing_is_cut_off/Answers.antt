use Rattle.search_model.proofs.Totals.{nothing_is_cut_off}
use Rattle.search_model.proofs.laws.nothing_is_cut_off.Goals as goal

pub returns : goal.returns
returns c = nothing_is_cut_off
