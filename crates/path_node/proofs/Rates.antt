-- What the tables of the tangent bound keep of the rate.
use Rattle.std.proofs.Common.{ℕ, Option, Some, None, is_some, refl}
use Rattle.std.proofs.lemmas.Option.{none-some}
use Rattle.search_model.specs.Problem.{Problem}
use Rattle.tangent_bound.specs.Room.{IsRateFound}
use Rattle.path_node.specs.Room.{TellsRate}

-- whether they keep one tells whether there is one
pub rate_told : (p : Problem) (found : Option ℕ) → IsRateFound p found → TellsRate p (is_some found)
rate_told p (Some rate) told = (rate, (told rate).0 refl)
rate_told p None told = λ rate is. none-some rate ((told rate).1 is)
