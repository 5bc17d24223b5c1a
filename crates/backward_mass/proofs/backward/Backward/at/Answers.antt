use Rattle.std.proofs.Common.{◌≡◌, arith, ◌∙◌}
use Rattle.backward_mass.specs.Table.{BackwardTable, mass_at}
use Rattle.backward_mass.proofs.Tables.{read_is, filled_fits}
use Rattle.backward_mass.proofs.backward.Backward.at.Goals as goal

pub returns-clause-fits : goal.returns-clause-fits
returns-clause-fits c = λ p q k sound filled from.
    let table : BackwardTable = record { cells = c.self.inside.cells; horizon = c.self.inside.horizon; masses = c.self.inside.masses.items } in
    let view : table ≡ c.args.self.now = c.self.view_is in
    let read = read_is table c.args.t c.args.c c.index.result.now c.self.invariant.size c.requires.first (rw (← view) at c.requires.last) (rw (← view) at c.requires.cell) in
    let mass : c.index.result.now ≡ mass_at c.args.self.now c.args.t c.args.c = c.index.ensures ∙ rw (c.from.ensures, c.from-2.ensures) (rw (← view) read) in
    omega (arith, mass, filled_fits p sound q k c.args.self.now filled c.args.t c.args.c from c.requires.first c.requires.last c.requires.cell)
