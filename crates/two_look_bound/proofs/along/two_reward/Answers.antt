use Rattle.std.proofs.Common.{◌≡◌, ◌+◌, refl, arith}
use Rattle.search_model.proofs.Totals.{whole_weight-fits}
use Rattle.edge_bound.proofs.Fitting.{edge_reward-within}
use Rattle.two_look_bound.specs.Taken.{parts_after_two}
use Rattle.two_look_bound.proofs.Fitting.{found_two-within}
use Rattle.two_look_bound.proofs.along.two_reward.Goals as goal

pub fill_shares-requires-clause-fits : goal.fill_shares-requires-clause-fits
fill_shares-requires-clause-fits c =
    let parts : c.later_parts-parts.result ≡ parts_after_two c.args.given.now.sc.now c.args.given.now.prefix.now c.args.s = rw (c.later_parts-parts.ensures, c.len.ensures.value) refl in
    rw parts (found_two-within c.args.given.now.sc.now c.recall_sound.ensures c.args.given.now.prefix.now c.args.s c.requires.middle c.args.a)

pub fill_taken-requires-clause-shares : goal.fill_taken-requires-clause-shares
fill_taken-requires-clause-shares c =
    let parts : c.later_parts-parts.result ≡ parts_after_two c.args.given.now.sc.now c.args.given.now.prefix.now c.args.s = rw (c.later_parts-parts.ensures, c.len.ensures.value) refl in
    rw parts at c.fill_shares.ensures.each

pub skip-outer-requires-clause-shares : goal.skip-outer-requires-clause-shares
skip-outer-requires-clause-shares c =
    let parts : c.later_parts-parts.result ≡ parts_after_two c.args.given.now.sc.now c.args.given.now.prefix.now c.args.s = rw (c.later_parts-parts.ensures, c.len.ensures.value) refl in
    rw parts at c.fill_shares.ensures.each

pub gain_after-requires-clause-least : goal.gain_after-requires-clause-least
gain_after-requires-clause-least c = rw c.next_reward-edge.ensures.reward (omega arith)

pub gain_after-requires-clause-most : goal.gain_after-requires-clause-most
gain_after-requires-clause-most c =
    let p = c.args.given.now.sc.now in
    let sound = c.recall_sound.ensures in
    rw c.next_reward-edge.ensures.reward (omega (arith, edge_reward-within p sound c.args.given.now.prefix.now (c.args.s + 1) c.args.b c.args.c (omega (arith, c.requires.middle.later, c.requires.middle.last)), whole_weight-fits p sound))

pub returns-clause-reward : goal.returns-clause-reward
returns-clause-reward c = omega (arith, c.gain_after.ensures, c.next_reward-edge.ensures.reward)
