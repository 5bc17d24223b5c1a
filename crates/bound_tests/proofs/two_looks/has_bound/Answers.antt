use Rattle.bound_tests.proofs.two_looks.has_bound.Goals as goal

pub bound-requires-clause-onward : goal.bound-requires-clause-onward
bound-requires-clause-onward c = c.onward.ensures c.args.sc.now _ c.go_to.ensures.made c.go_to.ensures.there
