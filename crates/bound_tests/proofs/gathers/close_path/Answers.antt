use Rattle.search_core.proofs.FromBounds.{path_is_whole}
use Rattle.bound_tests.proofs.gathers.close_path.Goals as goal

pub step-requires-clause-allowed : goal.step-requires-clause-allowed
step-requires-clause-allowed c = λ held s at.
    let whole = c.args.whole.now in
    path_is_whole c.args.sc.now s whole.path whole.value c.requires.exact.path c.requires.exact.value
