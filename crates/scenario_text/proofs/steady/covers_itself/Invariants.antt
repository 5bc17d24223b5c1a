use Rattle.std.proofs.Common.{◌≡◌, ◌≢◌, ◌<◌, ℕ}
use Rattle.sweep_table.specs.LookParts.{factor_of}
use Rattle.scenario_text.proofs.steady.covers_itself.Given as goal

abbrev pub invariant-loop-c : goal.invariant-loop-c
invariant-loop-c l = (d : ℕ) → d < l.c → d ≢ l.q → factor_of l.sc.sweep 1 l.q d ≡ l.sc.sweep.denominator
