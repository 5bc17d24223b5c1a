use Rattle.std.proofs.Common.{◌≡◌, map}
use Rattle.period_rows.specs.Changes.{change_of}
use Rattle.period_rows.proofs.ChangeFaults.{AreRight, keys_before}
use Rattle.period_rows.proofs.changes.index_of.Given as goal

abbrev pub invariant-loop-i : goal.invariant-loop-i
invariant-loop-i g l = record {
  index : l.index.keys ≡ keys_before (map change_of l.changes) l.i;
  right : AreRight (g.T.RowTest.right l.test) l.last l.owners (map change_of l.changes) l.i;
}
