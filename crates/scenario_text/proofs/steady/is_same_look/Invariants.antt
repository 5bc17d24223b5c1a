use Rattle.std.proofs.Common.{◌≡◌, ◌<◌, ℕ}
use Rattle.sweep_table.specs.LookParts.{factor_of}
use Rattle.scenario_text.proofs.steady.is_same_look.Given as goal

abbrev pub invariant-loop-c : goal.invariant-loop-c
invariant-loop-c l = (d : ℕ) → d < l.c → factor_of l.sc.sweep l.t l.q d ≡ factor_of l.sc.sweep 1 l.q d
