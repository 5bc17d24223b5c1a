use Rattle.std.proofs.Common.{◌≡◌, ◌<◌, ℕ, true}
use Rattle.scenario_text.specs.Canonical.{covers_itself}
use Rattle.scenario_text.proofs.steady.cover_themselves.Given as goal

abbrev pub invariant-loop-q : goal.invariant-loop-q
invariant-loop-q l = (d : ℕ) → d < l.q → covers_itself l.sc d ≡ true
