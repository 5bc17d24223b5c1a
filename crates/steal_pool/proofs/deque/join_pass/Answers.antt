use Rattle.steal_pool.proofs.Balance.{merges}
use Rattle.steal_pool.proofs.deque.join_pass.Goals as goal

pub absorb-requires-clause-rule : goal.absorb-requires-clause-rule
absorb-requires-clause-rule g c = merges _ _ _ _ c.requires.owner c.requires.some
