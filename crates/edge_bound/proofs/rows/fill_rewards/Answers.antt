use Rattle.std.proofs.Common.{refl}
use Rattle.edge_bound.proofs.rows.fill_rewards.Goals as goal

pub reward_by-requires-clause-parts : goal.reward_by-requires-clause-parts
reward_by-requires-clause-parts c = rw (c.later_parts-parts.ensures, c.len.ensures.value) refl
