use Rattle.belief_update.specs.Masses.{looks_to}
use Rattle.belief_update.specs.Belief.{IsBelief}
use Rattle.belief_update.specs.Trails.{HaveAllCells}
use Rattle.belief_update.specs.Onward.{AreOnwardTo}
use Rattle.belief_update.proofs.onward.fill_rows.Given as goal

-- the belief in period t, and those up to that period
abbrev pub invariant-loop-t : goal.invariant-loop-t
invariant-loop-t l = record {
  belief : IsBelief l.sc (looks_to l.t l.prefix) l.belief;
  cells : HaveAllCells l.sc l.rows;
  each : AreOnwardTo l.sc l.prefix l.t l.rows;
}
