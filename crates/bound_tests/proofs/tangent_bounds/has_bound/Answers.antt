use Rattle.std.proofs.Common.{sym, ◌∙◌}
use Rattle.bound_tests.proofs.tangent_bounds.has_bound.Goals as goal

pub bound_by-along-requires-clause-onward : goal.bound_by-along-requires-clause-onward
bound_by-along-requires-clause-onward c = c.onward.ensures c.args.sc.now _ c.go_to.ensures.made c.go_to.ensures.there

pub bound_by-along-requires-clause-rate : goal.bound_by-along-requires-clause-rate
bound_by-along-requires-clause-rate c = (c.in_ok-_kept._kept, (c.requires.tables.rate c.in_ok-_kept._kept).0 (sym c.rate.ensures ∙ c.in_ok-_kept.was))

pub bound_by-front-requires-clause-onward : goal.bound_by-front-requires-clause-onward
bound_by-front-requires-clause-onward c = c.onward-2.ensures c.args.sc.now _ c.go_to-2.ensures.made c.go_to-2.ensures.there

pub bound_by-front-requires-clause-rate : goal.bound_by-front-requires-clause-rate
bound_by-front-requires-clause-rate c = (c.in_ok-_kept._kept, (c.requires.tables.rate c.in_ok-_kept._kept).0 (sym c.rate.ensures ∙ c.in_ok-_kept.was))

pub bound-bound-requires-clause-rate : goal.bound-bound-requires-clause-rate
bound-bound-requires-clause-rate c = (c.in_ok-_rate._rate, (c.requires.tangent.tables.rate c.in_ok-_rate._rate).0 (sym c.rate-2.ensures ∙ c.in_ok-_rate.was))
