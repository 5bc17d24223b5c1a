use Rattle.path_node.proofs.node.Scratch.look_through.Goals as goal

pub bound_by-requires-clause-onward : goal.bound_by-requires-clause-onward
bound_by-requires-clause-onward c = c.onward-onward.ensures c.args.sc.now c.args.prefix.now c.go_to.ensures.made c.go_to.ensures.there
