use Rattle.std.proofs.Common.{inl, inr, arith}
use Rattle.two_look_bound.proofs.Fitting.{two-below}
use Rattle.two_look_bound.proofs.pairs.better_by_row.Goals as goal

pub returns-then-gain-best : goal.returns-then-gain-best
returns-then-gain-best c =
    elim c.then-gain-best.either [
      | inl less ↦ omega (arith, two-below c.args.given.now.sc.now c.recall_sound.ensures c.args.given.now.prefix.now c.args.s c.args.a c.args.b c.args.c c.requires.middle, c.requires.gain, less)
      | inr same ↦ rw same.1 (omega (arith, c.requires.top))
    ]
