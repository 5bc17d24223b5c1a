use Rattle.std.proofs.Common.{◌≡◌, ◌<◌, ◌≤◌, ◌-◌, ℕ}
use Rattle.drift_chain.specs.DriftRows.{row_of}
use Rattle.sweep_table.specs.LookParts.{look_row}
use Rattle.edge_bound.proofs.units.is_steady.Given as goal

-- the periods so far
abbrev pub invariant-loop-t : goal.invariant-loop-t
invariant-loop-t l = record {
  steps : (u c : ℕ) → 2 ≤ u → u ≤ l.t → c < l.sc.cells → row_of l.sc.drift (u - 1) c ≡ row_of l.sc.drift 1 c;
  looks : (u b : ℕ) → 2 ≤ u → u ≤ l.t → b < l.sc.positions → look_row l.sc.sweep u b ≡ look_row l.sc.sweep 2 b;
}
