use Rattle.std.proofs.Common.{◌≡◌, ◌<◌, ℕ, true}
use Rattle.period_rows.specs.Rows.{is_same_row}
use Rattle.drift_chain.specs.DriftRows.{row_of}
use Rattle.scenario_text.proofs.steady.drifts_as_first.Given as goal

abbrev pub invariant-loop-c : goal.invariant-loop-c
invariant-loop-c l = (d : ℕ) → d < l.c → is_same_row (row_of l.sc.drift l.t d) (row_of l.sc.drift 1 d) ≡ true
