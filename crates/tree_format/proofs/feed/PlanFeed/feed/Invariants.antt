use Rattle.std.proofs.Common.{◌≤◌, ◌-◌, length}
use Rattle.tree_format.specs.Feeding.{IfRead}
use Rattle.tree_format.proofs.FedPieces.{IsFedTo}
use Rattle.tree_format.proofs.feed.PlanFeed.feed.Given as goal

-- as many bytes were fed, and none completed an item or decided a fault
abbrev pub invariant-loop-done : goal.invariant-loop-done
invariant-loop-done l = record {
  within : l.done ≤ length l.piece;
  fed : IfRead l.sc l.fn.self (λ family fed items. IsFedTo family l.sc fed items l.piece l.done l.self);
}

abbrev pub decreases-loop-done : goal.decreases-loop-done
decreases-loop-done l = length l.piece - l.done
