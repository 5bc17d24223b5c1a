use Rattle.bound_tree.specs.Close.{IsExact}
use Rattle.mean_bound.specs.Means.{IsMadeFor}
use Rattle.scout_path.proofs.rollout.best_ahead.Given as goal

-- the best path so far, with its value
abbrev pub invariant-loop-i : goal.invariant-loop-i
invariant-loop-i l = record {
  made : IsMadeFor l.sc l.mean;
  exact : IsExact l.sc l.best;
}
