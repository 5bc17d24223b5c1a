use Rattle.exact_parts.proofs.Percents.{worked_percents}
use Rattle.exact_parts.proofs.percent.worked_percents.Goals as goal

pub returns : goal.returns
returns c = worked_percents
