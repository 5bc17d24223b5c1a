use Rattle.std.proofs.Common.{◌≡◌, ◌<◌, ◌≤◌, ℕ, true}
use Rattle.scenario_text.specs.Canonical.{is_as_first, covered}
use Rattle.scenario_text.proofs.steady.are_looks_steady.Given as goal

abbrev pub invariant-loop-t : goal.invariant-loop-t
invariant-loop-t l = (u : ℕ) → 2 ≤ u → u < l.t → is_as_first (covered l.sc) l.sc.positions u ≡ true
