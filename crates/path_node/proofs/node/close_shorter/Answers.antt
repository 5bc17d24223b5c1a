use Rattle.std.proofs.Common.{◌∙◌, sym, subst, ap}
use Rattle.bound_tree.proofs.Tangents.{tangent_needs_rate}
use Rattle.path_node.specs.Room.{NodeTables, TellsRate}
use Rattle.path_node.proofs.node.close_shorter.Goals as goal

-- without one rate there is no tangent to be cut
pub close_by_edge-requires-clause-open : goal.close_by_edge-requires-clause-open
close_by_edge-requires-clause-open c =
    let p = c.args.sc.now in
    let q = c.args.prefix.now in
    let none = subst (TellsRate p) c.if-has_rate.false (c.has_rate.ensures p (rw (ap (λ (s : NodeTables). s.tangent) c.scratch.view_is) c.requires.made.tangent)) in
    record {
      mean = rw c.bound-mean.ensures.bound at (sym c.cuts.ensures ∙ c.if-cuts.false);
      tangent = λ b whole tangent. absurd (tangent_needs_rate p q b whole none tangent);
    }

-- and with one there is
pub close_by_tangent-requires-clause-rate : goal.close_by_tangent-requires-clause-rate
close_by_tangent-requires-clause-rate c = subst (TellsRate c.args.sc.now) c.if-has_rate.true (c.has_rate.ensures c.args.sc.now (rw (ap (λ (s : NodeTables). s.tangent) c.scratch.view_is) c.requires.made.tangent))
