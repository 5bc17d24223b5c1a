use Rattle.std.proofs.Common.{ℕ, ◌≡◌, ◌<◌, ◌+◌, ◌-◌, List, length, subst, ◌∙◌, arith, Contains}
use Rattle.std.proofs.lemmas.List.Elements.{All-weaker, All-contains_itself}
use Rattle.search_model.specs.Problem.{Problem, IsProblem}
use Rattle.search_model.specs.Legal.{IsLegal, last_of}
use Rattle.search_model.proofs.LegalLemmas.{last_within}
use Rattle.search_model.proofs.Totals.{some_parts}
use Rattle.longest_walk.specs.Near.{IsNear}
use Rattle.longest_walk.specs.Tables.{HasNear}
use Rattle.longest_walk.proofs.NearEntries.{near_more}
use Rattle.longest_walk.proofs.NearSteps.{near_within}
use Rattle.mean_bound.proofs.rewards.fill_period.Goals as goal

pub fill_some-requires-clause-parts : goal.fill_some-requires-clause-parts
fill_some-requires-clause-parts c = rw c.later_parts.ensures (some_parts c.args.sc.now c.positions.ensures.sound _ _)

pub fill_some-requires-clause-fits : goal.fill_some-requires-clause-fits
fill_some-requires-clause-fits c a here = rw (c.later_parts.ensures, c.len-k.ensures.value) (c.requires.fits a here)

module _ (p : Problem) (q : List ℕ) (sound : IsProblem p) (legal : IsLegal p q) where
  -- the last position of the prefix
  last_inside : last_of p.start q < length p.moves
  last_inside = last_within p.moves sound.grid p.start (omega (arith, sound.start, sound.grid_positions)) q legal.follows

  -- and the positions within reach of it
  near_inside : (n a : ℕ) → IsNear p.moves n (last_of p.start q) a → a < p.positions
  near_inside n a near = omega (arith, near_within p.moves sound.grid n (last_of p.start q) a last_inside near, sound.grid_positions)

pub within-requires-clause-position : goal.within-requires-clause-position
within-requires-clause-position c =
    rw (c.grid.ensures.value, c.last_after-from.ensures.value) (last_inside c.args.sc.now c.args.prefix.now c.grid.ensures.sound c.requires.legal)

pub fill_some-requires-clause-inside : goal.fill_some-requires-clause-inside
fill_some-requires-clause-inside c =
    let p = c.args.sc.now in
    let some = c.within.result.now in
    All-weaker (Contains some) (λ a. a < p.positions)
    (λ a listed.
    let near = rw (c.last_after-from.ensures.value, c.grid.ensures.value) at ((c.within.ensures a).0 listed) in
    near_inside p c.args.prefix.now c.grid.ensures.sound c.requires.legal _ a near) some (All-contains_itself some)

pub returns : goal.returns
returns c r is filled =
    let p = c.args.sc.now in
    let q = c.args.prefix.now in
    let t = c.args.t in
    let sound = c.grid.ensures.sound in
    let next : t - 1 + 1 ≡ t = omega (arith, c.requires.later) in
    let positions : c.from-positions.result ≡ p.positions = c.from-positions.ensures ∙ c.positions.ensures.value in
    let each = rw (positions, c.later_parts.ensures, c.len-k.ensures.value) at c.fill_some.ensures.each in
    let earlier = rw positions at c.fill_some.ensures.earlier in
    let more = near_more p.moves sound.grid p.positions r (last_of p.start q) (length q) c.args.rewards.now c.fill_some.new.rewards (t - 1) sound.grid_positions
    (last_inside p q sound c.requires.legal) filled
    (λ a near.
    let steps : t - 1 + 1 - length q ≡ t - c.len-k.result = omega (arith, c.requires.later, c.len-k.ensures.value) in
    let listed = (c.within.ensures a).1 (rw (c.last_after-from.ensures.value, c.grid.ensures.value) (subst (λ (n : ℕ). IsNear p.moves n (last_of p.start q) a) steps near)) in
    rw next (each a listed ∙ is a (near_inside p q sound c.requires.legal _ a near))) earlier in
    subst (λ (u : ℕ). HasNear p.moves p.positions u r (last_of p.start q) (length q) c.fill_some.new.rewards) next more
