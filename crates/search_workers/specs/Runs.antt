-- What the run of a worker does.
use Rattle.search_model.specs.declared.standing.Standing.{Standing}
use Rattle.search_model.specs.Problem.{Problem}
use Rattle.search_workers.specs.declared.crew.Member.{Member}
use Rattle.search_workers.specs.Workers.{Went}

-- a worker has gone, and why it left is noted
pub record Runs (p : Problem) (first : Standing) (old new : Member) : Type 0 where
  pub went : Went p first old.worker new.left new.worker
