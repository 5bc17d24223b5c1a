use Rattle.std.proofs.Common.{◌∙◌}
use Rattle.tree_checker.proofs.Rates.{kept_rate_is_found}
use Rattle.tree_checker.proofs.tables.BoundTables.one_rate.Goals as goal

pub returns : goal.returns
returns c = λ p made. c.rate.ensures ∙ kept_rate_is_found p c.args.self.now.tangent.rate made.tangent_for.rate
