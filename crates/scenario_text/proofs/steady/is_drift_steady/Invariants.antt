use Rattle.std.proofs.Common.{◌≡◌, ◌<◌, ◌≤◌, ℕ, true}
use Rattle.drift_chain.specs.DriftRows.{row_of}
use Rattle.scenario_text.specs.Canonical.{is_as_first}
use Rattle.scenario_text.proofs.steady.is_drift_steady.Given as goal

abbrev pub invariant-loop-t : goal.invariant-loop-t
invariant-loop-t l = (u : ℕ) → 2 ≤ u → u < l.t → is_as_first (row_of l.sc.drift) l.sc.cells u ≡ true
