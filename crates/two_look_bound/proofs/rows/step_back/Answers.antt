use Rattle.std.proofs.Common.{ℕ, suc, ◌≡◌, ◌-◌, length, subst, refl, inr, arith}
use Rattle.search_model.specs.Legal.{last_of}
use Rattle.longest_walk.specs.Near.{IsNear}
use Rattle.edge_bound.proofs.Reached.{listed_near, last_inside, all_inside}
use Rattle.two_look_bound.proofs.rows.step_back.Goals as goal

pub within-here-requires-clause-position : goal.within-here-requires-clause-position
within-here-requires-clause-position c =
    rw (c.grid.ensures.value, c.last_after-from.ensures.value) (last_inside c.args.given.now.sc.now c.last_after-from.ensures.sound c.args.given.now.prefix.now c.requires.given.legal)

pub within-before-requires-clause-position : goal.within-before-requires-clause-position
within-before-requires-clause-position c =
    rw (c.grid-2.ensures.value, c.last_after-from.ensures.value) (last_inside c.args.given.now.sc.now c.last_after-from.ensures.sound c.args.given.now.prefix.now c.requires.given.legal)

pub fill_rewards-requires-clause-inside : goal.fill_rewards-requires-clause-inside
fill_rewards-requires-clause-inside c =
    let p = c.args.given.now.sc.now in
    let q = c.args.given.now.prefix.now in
    let made : c.args.s - c.len.result ≡ c.args.s - length q = rw c.len.ensures.value refl in
    let listed_here = listed_near p.moves c.grid.result.now c.within-here.result.now (last_of p.start q) c.last_after-from.result (c.args.s - length q) _ c.grid.ensures.value c.last_after-from.ensures.value made c.within-here.ensures in
    all_inside c.args.given.now.sc.now c.last_after-from.ensures.sound c.args.given.now.prefix.now c.requires.given.legal c.within-here.result.now (c.args.s - length c.args.given.now.prefix.now) listed_here

pub fill_row-requires-clause-inside : goal.fill_row-requires-clause-inside
fill_row-requires-clause-inside c =
    let p = c.args.given.now.sc.now in
    let q = c.args.given.now.prefix.now in
    let less : c.args.s - c.len.result - 1 ≡ c.args.s - 1 - length q = rw c.len.ensures.value (omega arith) in
    let listed_before = listed_near p.moves c.grid-2.result.now c.within-before.result.now (last_of p.start q) c.last_after-from.result (c.args.s - 1 - length q) _ c.grid-2.ensures.value c.last_after-from.ensures.value less c.within-before.ensures in
    all_inside c.args.given.now.sc.now c.last_after-from.ensures.sound c.args.given.now.prefix.now c.requires.given.legal c.within-before.result.now (c.args.s - 1 - length c.args.given.now.prefix.now) listed_before

pub fill_row-requires-clause-near : goal.fill_row-requires-clause-near
fill_row-requires-clause-near c a there =
    let p = c.args.given.now.sc.now in
    let q = c.args.given.now.prefix.now in
    let less : c.args.s - c.len.result - 1 ≡ c.args.s - 1 - length q = rw c.len.ensures.value (omega arith) in
    let listed_before = listed_near p.moves c.grid-2.result.now c.within-before.result.now (last_of p.start q) c.last_after-from.result (c.args.s - 1 - length q) _ c.grid-2.ensures.value c.last_after-from.ensures.value less c.within-before.ensures in
    (listed_before a).0 there

pub fill_row-requires-clause-rewards : goal.fill_row-requires-clause-rewards
fill_row-requires-clause-rewards c a b there move =
    let p = c.args.given.now.sc.now in
    let q = c.args.given.now.prefix.now in
    let made : c.args.s - c.len.result ≡ c.args.s - length q = rw c.len.ensures.value refl in
    let listed_here = listed_near p.moves c.grid.result.now c.within-here.result.now (last_of p.start q) c.last_after-from.result (c.args.s - length q) _ c.grid.ensures.value c.last_after-from.ensures.value made c.within-here.ensures in
    let less : c.args.s - c.len.result - 1 ≡ c.args.s - 1 - length q = rw c.len.ensures.value (omega arith) in
    let listed_before = listed_near p.moves c.grid-2.result.now c.within-before.result.now (last_of p.start q) c.last_after-from.result (c.args.s - 1 - length q) _ c.grid-2.ensures.value c.last_after-from.ensures.value less c.within-before.ensures in
    let one : suc (c.args.s - 1 - length q) ≡ c.args.s - length q = omega (arith, c.requires.period.later) in
    let near : IsNear c.args.given.now.sc.now.moves (suc (c.args.s - 1 - length q)) (last_of c.args.given.now.sc.now.start q) b = inr (a, (listed_before a).0 there, move) in
    c.fill_rewards.ensures.gains b ((listed_here b).1 (subst (λ (m : ℕ). IsNear c.args.given.now.sc.now.moves m (last_of c.args.given.now.sc.now.start q) b) one near))

pub returns-clause-pairs : goal.returns-clause-pairs
returns-clause-pairs c t next a b n is near move =
    let p = c.args.given.now.sc.now in
    let q = c.args.given.now.prefix.now in
    let less : c.args.s - c.len.result - 1 ≡ c.args.s - 1 - length q = rw c.len.ensures.value (omega arith) in
    let listed_before = listed_near p.moves c.grid-2.result.now c.within-before.result.now (last_of p.start q) c.last_after-from.result (c.args.s - 1 - length q) _ c.grid-2.ensures.value c.last_after-from.ensures.value less c.within-before.ensures in
    let moves : n ≡ c.args.s - 1 - length q = omega (arith, next, is) in
    let there = (listed_before a).1 (subst (λ (m : ℕ). IsNear c.args.given.now.sc.now.moves m (last_of c.args.given.now.sc.now.start q) a) moves near) in
    rw next (c.fill_row.ensures.each a b there move)
