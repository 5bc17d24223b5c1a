use Rattle.std.proofs.Common.{sym}
use Rattle.tree_checker.proofs.Rates.{finds_one_rate}
use Rattle.tree_checker.proofs.bounds.tangent_reason_at.Goals as goal

pub tangent_bound-right-requires-clause-rate : goal.tangent_bound-right-requires-clause-rate
tangent_bound-right-requires-clause-rate c = (finds_one_rate c.args.sc.now c.in-Some.rate).0 (sym (c.in-Some.ensures c.args.sc.now c.requires.made))
