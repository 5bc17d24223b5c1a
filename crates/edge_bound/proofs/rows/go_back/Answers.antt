use Rattle.std.proofs.Common.{ℕ, ◌≡◌, ◌+◌, ◌-◌, length, subst, refl, arith}
use Rattle.search_model.specs.Legal.{last_of}
use Rattle.longest_walk.specs.Near.{IsNear}
use Rattle.edge_bound.specs.Moves.{HasGains}
use Rattle.edge_bound.proofs.Reached.{listed_near, last_inside, all_inside}
use Rattle.edge_bound.proofs.Walking.{gain_last, gain_back}
use Rattle.edge_bound.proofs.rows.go_back.Goals as goal

pub within-last-requires-clause-position : goal.within-last-requires-clause-position
within-last-requires-clause-position c =
    rw (c.grid.ensures.value, c.last_after-from.ensures.value) (last_inside c.args.sc.now c.last_after-from.ensures.sound c.args.prefix.now c.requires.legal)

pub within-before-requires-clause-position : goal.within-before-requires-clause-position
within-before-requires-clause-position c =
    rw (c.grid-in-loop-t.ensures.value, c.last_after-from.ensures.value) (last_inside c.args.sc.now c.last_after-from.ensures.sound c.args.prefix.now c.requires.legal)

pub fill_rewards-requires-clause-inside : goal.fill_rewards-requires-clause-inside
fill_rewards-requires-clause-inside c =
    let p = c.args.sc.now in
    let q = c.args.prefix.now in
    let steps : c.horizon.result - c.len.result ≡ p.horizon - length q = rw (c.horizon.ensures.value, c.len.ensures.value) refl in
    let listed = listed_near p.moves c.grid.result.now c.within-last.result.now (last_of p.start q) c.last_after-from.result (p.horizon - length q) _ c.grid.ensures.value c.last_after-from.ensures.value steps c.within-last.ensures in
    all_inside p c.last_after-from.ensures.sound q c.requires.legal c.within-last.result.now (p.horizon - length q) listed

pub loop-t-init : goal.loop-t-init
loop-t-init c =
    let p = c.args.sc.now in
    let q = c.args.prefix.now in
    let steps : c.horizon.result - c.len.result ≡ p.horizon - length q = rw (c.horizon.ensures.value, c.len.ensures.value) refl in
    let listed = listed_near p.moves c.grid.result.now c.within-last.result.now (last_of p.start q) c.last_after-from.result (p.horizon - length q) _ c.grid.ensures.value c.last_after-from.ensures.value steps c.within-last.ensures in
    record {
      start = omega (arith, c.horizon-t.ensures.value, c.requires.short);
      gains = λ b n is near.
          let moves : n ≡ p.horizon - length q = omega (arith, is, c.horizon-t.ensures.value) in
          let reward = c.fill_rewards.ensures.gains b ((listed b).1 (subst (λ (m : ℕ). IsNear p.moves m (last_of p.start q) b) moves near)) in
          gain_last p q c.horizon-2.result c.horizon-t.result b _ c.horizon-2.ensures.value c.horizon-t.ensures.value reward;
    }

pub fill_row-requires-clause-inside : goal.fill_row-requires-clause-inside
fill_row-requires-clause-inside c =
    let p = c.args.sc.now in
    let q = c.args.prefix.now in
    let steps : c.loop-t.t - 1 - c.len-in-loop-t.result ≡ c.loop-t.t - 1 - length q = omega (arith, c.len-in-loop-t.ensures.value) in
    let listed = listed_near p.moves c.grid-in-loop-t.result.now c.within-before.result.now (last_of p.start q) c.last_after-from.result (c.loop-t.t - 1 - length q) _ c.grid-in-loop-t.ensures.value c.last_after-from.ensures.value steps c.within-before.ensures in
    all_inside p c.last_after-from.ensures.sound q c.requires.legal c.within-before.result.now (c.loop-t.t - 1 - length q) listed

pub fill_row-requires-clause-gains : goal.fill_row-requires-clause-gains
fill_row-requires-clause-gains c =
    let p = c.args.sc.now in
    let back : c.loop-t.t ≡ c.loop-t.t - 1 + 1 = omega (arith, c.loop-t.invariant.start) in
    subst (λ (t : ℕ). HasGains p c.args.prefix.now t c.loop-t.gains) back c.loop-t.invariant.gains

pub loop-t-preserved : goal.loop-t-preserved
loop-t-preserved c =
    let p = c.args.sc.now in
    let q = c.args.prefix.now in
    let steps : c.loop-t.t - 1 - c.len-in-loop-t.result ≡ c.loop-t.t - 1 - length q = omega (arith, c.len-in-loop-t.ensures.value) in
    let listed = listed_near p.moves c.grid-in-loop-t.result.now c.within-before.result.now (last_of p.start q) c.last_after-from.result (c.loop-t.t - 1 - length q) _ c.grid-in-loop-t.ensures.value c.last_after-from.ensures.value steps c.within-before.ensures in
    record {
      start = omega (arith, c.loop-t-test.true, c.len-2.ensures.value);
      gains = λ a n is near.
          let moves : n ≡ c.loop-t.t - 1 - length q = omega (arith, is) in
          let row = c.fill_row.ensures.row a ((listed a).1 (subst (λ (m : ℕ). IsNear p.moves m (last_of p.start q) a) moves near)) in
          rw c.copy_from_slice.ensures.after (gain_back p q (c.loop-t.t - 1) (c.loop-t.t - 1 + 1) a _ refl row);
    }

pub returns : goal.returns
returns c =
    let e : c.loop-t.t ≡ length c.args.prefix.now + 1 = omega (arith, c.len-2.ensures.value, c.loop-t-test.false, c.loop-t.invariant.start) in
    rw e at c.loop-t.invariant.gains
