use Rattle.std.proofs.Common.{◌≡◌, length}
use Rattle.search_model.specs.Legal.{IsLegal}
use Rattle.bound_tree.specs.Close.{IsExact, IsAtLeast}
use Rattle.mean_bound.specs.Means.{IsMadeFor}
use Rattle.scout_path.proofs.rollout.scout.Given as goal

-- the best path so far, with its value, and the moves so far
abbrev pub invariant-loop-t : goal.invariant-loop-t
invariant-loop-t l = record {
  made : IsMadeFor l.sc l.mean;
  exact : IsExact l.sc l.best;
  not_worse : IsAtLeast l.best l.first;
  legal : IsLegal l.sc l.prefix;
  long : length l.prefix ≡ l.t;
}
