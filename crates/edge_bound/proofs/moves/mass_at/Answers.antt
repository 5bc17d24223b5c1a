use Rattle.std.proofs.Common.{◌∙◌, arith}
use Rattle.belief_update.specs.Masses.{looks_to}
use Rattle.belief_update.proofs.BeliefSteps.{mass_at}
use Rattle.belief_update.proofs.OnwardRows.{belief_at}
use Rattle.edge_bound.proofs.moves.mass_at.Goals as goal

pub at-requires-2 : goal.at-requires-2
at-requires-2 c =
    let belief = belief_at c.args.sc.now c.args.prefix.now c.args.onward.now c.args.t c.at.result.now c.requires.onward c.requires.later c.requires.last c.at.ensures in
    omega (arith, belief.cells, c.requires.cell)

pub returns : goal.returns
returns c =
    let p = c.args.sc.now in
    let q = c.args.prefix.now in
    let t = c.args.t in
    let belief = belief_at p q c.args.onward.now t c.at.result.now c.requires.onward c.requires.later c.requires.last c.at.ensures in
    c.at-2.ensures ∙ mass_at p (looks_to t q) c.at.result.now belief c.args.c c.requires.cell
