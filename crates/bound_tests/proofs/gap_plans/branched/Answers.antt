use Rattle.bound_tests.proofs.Branched.{branched_is_even}
use Rattle.bound_tests.proofs.gap_plans.branched.Goals as goal

pub make_gap-requires-clause-even : goal.make_gap-requires-clause-even
make_gap-requires-clause-even c = branched_is_even c.args.sc.now c.in_ok-closed.closed.items c.in_ok-waiting.waiting.items c.in_ok-closed.ensures c.in_ok-waiting.ensures
