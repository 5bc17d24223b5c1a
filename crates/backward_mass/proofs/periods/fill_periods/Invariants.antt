use Rattle.backward_mass.specs.Table.{AreRowsFrom}
use Rattle.backward_mass.proofs.periods.fill_periods.Given as goal

-- the masses of the periods from t on
abbrev pub invariant-loop-t : goal.invariant-loop-t
invariant-loop-t l = AreRowsFrom l.sc l.looks l.t l.masses
