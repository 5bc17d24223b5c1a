use Rattle.steal_pool.proofs.Balance.{takes}
use Rattle.steal_pool.proofs.deque.take_task.Goals as goal

pub pop_as-requires-clause-fifo : goal.pop_as-requires-clause-fifo
pop_as-requires-clause-fifo g c = λ _. takes _ _ 1 c.requires.some
