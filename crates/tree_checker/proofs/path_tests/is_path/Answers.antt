use Rattle.tree_checker.proofs.Paths.{legal_is_path}
use Rattle.tree_checker.proofs.path_tests.is_path.Goals as goal

pub returns-then-len-horizon-clause-value : goal.returns-then-len-horizon-clause-value
returns-then-len-horizon-clause-value c = legal_is_path c.args.sc.now c.args.path.now c.is_legal.result (cc) c.is_legal.ensures
