use Rattle.tree_checker.proofs.tables.BoundTables.two_look_bound.Goals as goal

pub bound-requires-clause-onward : goal.bound-requires-clause-onward
bound-requires-clause-onward c = c.onward-onward.ensures c.args.sc.now c.args.prefix.now c.go_to.ensures.made c.go_to.ensures.there
