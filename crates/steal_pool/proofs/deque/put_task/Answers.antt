use Rattle.steal_pool.proofs.Balance.{puts}
use Rattle.steal_pool.proofs.deque.put_task.Goals as goal

pub push_as-requires-clause-pushes : goal.push_as-requires-clause-pushes
push_as-requires-clause-pushes g c = puts _ _ _ c.requires.owner c.requires.some
