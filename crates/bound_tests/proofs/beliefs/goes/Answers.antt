use Rattle.std.proofs.Common.{◌==◌, arith}
use Rattle.std.proofs.lemmas.List.Sums.{common_prefix_len-le}
use Rattle.bound_tests.proofs.beliefs.goes.Goals as goal

pub returns-in_default-clause-counted : goal.returns-in_default-clause-counted
returns-in_default-clause-counted g c = omega (arith, (common_prefix_len-le (λ a b. a == b) c.args.trail.now.prefix c.args.cells.now).1)

pub returns-in_default-2-clause-counted : goal.returns-in_default-2-clause-counted
returns-in_default-2-clause-counted g c = omega (arith, (common_prefix_len-le (λ a b. a == b) c.args.trail.now.prefix c.args.cells.now).1)
