use Rattle.ceiling_bound.proofs.ceilings.Ceilings.edge_bound.Goals as goal

pub bound_by-requires-clause-onward : goal.bound_by-requires-clause-onward
bound_by-requires-clause-onward c = c.onward.ensures c.args.sc.now c.args.prefix.now c.go_to.ensures.made c.go_to.ensures.there

pub bound_by-requires-clause-near : goal.bound_by-requires-clause-near
bound_by-requires-clause-near c = c.near.ensures c.args.sc.now c.go_to.ensures.made
