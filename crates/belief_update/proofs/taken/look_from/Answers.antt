use Rattle.std.proofs.Common.{refl}
use Rattle.belief_update.proofs.taken.look_from.Goals as goal

pub returns-clause-row : goal.returns-clause-row
returns-clause-row c =
    let sound = c.sweep.ensures.sound in
    rw (c.look.ensures.value, c.sweep.ensures.value, ← sound.sweep_cells) (sound.sweep.each c.args.t c.args.a)

pub returns-clause-factors : goal.returns-clause-factors
unfolding Rattle.sweep_table.specs.LookParts.factor_of
returns-clause-factors c x = rw (c.look.ensures.value, c.sweep.ensures.value) refl
