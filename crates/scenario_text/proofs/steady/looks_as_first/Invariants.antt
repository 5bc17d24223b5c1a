use Rattle.std.proofs.Common.{◌≡◌, ◌<◌, ℕ, true}
use Rattle.period_rows.specs.Rows.{is_same_row}
use Rattle.scenario_text.specs.Canonical.{covered}
use Rattle.scenario_text.proofs.steady.looks_as_first.Given as goal

abbrev pub invariant-loop-q : goal.invariant-loop-q
invariant-loop-q l = (d : ℕ) → d < l.q → is_same_row (covered l.sc l.t d) (covered l.sc 1 d) ≡ true
