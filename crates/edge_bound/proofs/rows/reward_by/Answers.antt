use Rattle.std.proofs.Common.{arith}
use Rattle.search_model.proofs.Totals.{whole_weight-fits}
use Rattle.search_model.proofs.RewardSizes.{reward-within}
use Rattle.edge_bound.proofs.Discounts.{reward_is}
use Rattle.edge_bound.proofs.rows.reward_by.Goals as goal

pub overflow_mul-result : goal.overflow_mul-result
overflow_mul-result c =
    let p = c.args.sc.now in
    let q = c.args.prefix.now in
    let sound = c.recall_sound.ensures in
    let is = reward_is p sound q c.args.t c.args.b c.requires.later c.requires.last in
    let most = reward-within p sound q c.args.t c.args.b (omega (arith, c.requires.later, c.requires.last)) in
    rw (c.found_by.ensures, c.requires.parts) (omega (arith, is, most, whole_weight-fits p sound))

pub returns : goal.returns
returns c =
    rw (c.found_by.ensures, c.requires.parts) (reward_is c.args.sc.now c.recall_sound.ensures c.args.prefix.now c.args.t c.args.b c.requires.later c.requires.last)
