use Rattle.std.proofs.Common.{◌≤◌, ◌-◌, length, take}
use Rattle.tree_format.specs.Collecting.{HasCollected}
use Rattle.tree_format.proofs.collecting.take_all.Given as goal

abbrev pub invariant-loop-done : goal.invariant-loop-done
invariant-loop-done l = record {
  within : l.done ≤ length l.text;
  taken : HasCollected l.fn.family l.sc (take l.done l.text) l.feed l.kept;
}

abbrev pub decreases-loop-done : goal.decreases-loop-done
decreases-loop-done l = length l.text - l.done
