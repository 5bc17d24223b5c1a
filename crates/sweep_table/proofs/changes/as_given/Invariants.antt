use Rattle.std.proofs.Common.{◌≡◌, map}
use Rattle.period_rows.specs.Changes.{change_of as given_change}
use Rattle.sweep_table.specs.Changes.{change_of}
use Rattle.sweep_table.proofs.changes.as_given.Given as goal

abbrev pub invariant-loop-change : goal.invariant-loop-change
invariant-loop-change l = map given_change l.given.items ≡ map change_of l.yielded
