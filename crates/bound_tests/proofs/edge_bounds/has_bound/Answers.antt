use Rattle.bound_tests.proofs.edge_bounds.has_bound.Goals as goal

pub bound_by-after-requires-clause-onward : goal.bound_by-after-requires-clause-onward
bound_by-after-requires-clause-onward c = c.onward.ensures c.args.sc.now _ c.go_to.ensures.made c.go_to.ensures.there
