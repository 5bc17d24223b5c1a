use Rattle.std.proofs.Common.{ℕ, ap, take, ◌∙◌}
use Rattle.search_model.specs.Bounds.{tangent_of}
use Rattle.tree_checker.proofs.tables.BoundTables.tangent_bound.Goals as goal

pub bound_by-requires-clause-near : goal.bound_by-requires-clause-near
bound_by-requires-clause-near c = c.near-near.ensures c.args.sc.now c.go_to.ensures.made

pub bound_by-requires-clause-onward : goal.bound_by-requires-clause-onward
bound_by-requires-clause-onward c = c.onward-onward.ensures c.args.sc.now c.args.prefix.now c.go_to.ensures.made c.go_to.ensures.there

pub bound_by-requires-clause-rate : goal.bound_by-requires-clause-rate
bound_by-requires-clause-rate c = (c.args.rate, c.requires.rate)

pub returns-clause-value : goal.returns-clause-value
returns-clause-value c =
    c.bound_by.ensures.value c.args.rate c.requires.rate
    ∙ ap (λ q. tangent_of c.args.sc.now c.args.rate q c.args.reference.now) (ap (λ (n : ℕ). take n c.args.reference.now) c.len-k.ensures.value ∙ c.requires.begins)
