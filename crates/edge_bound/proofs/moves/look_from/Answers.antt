use Rattle.edge_bound.proofs.moves.look_from.Goals as goal

pub returns-clause-cells : goal.returns-clause-cells
returns-clause-cells c =
    let sound = c.sweep.ensures.sound in
    rw (c.look.ensures.value, c.sweep.ensures.value, ← sound.sweep_cells) (sound.sweep.each _ _).within

pub returns-clause-parts : goal.returns-clause-parts
returns-clause-parts c = rw (c.look.ensures.value, c.sweep.ensures.value) (c.sweep.ensures.sound.sweep.each _ _).parts
