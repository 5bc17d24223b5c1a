use Rattle.std.proofs.Common.{◌≡◌, map}
use Rattle.period_rows.specs.Changes.{change_of}
use Rattle.drift_chain.specs.ChangeFaults.{row_change}
use Rattle.drift_chain.proofs.changes.as_given.Given as goal

abbrev pub invariant-loop-change : goal.invariant-loop-change
invariant-loop-change l = map change_of l.given.items ≡ map row_change l.yielded
