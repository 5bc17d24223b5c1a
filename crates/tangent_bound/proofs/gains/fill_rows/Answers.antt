use Rattle.std.proofs.Common.{ℕ, ◌≡◌, ◌<◌, ◌≤◌, ◌+◌, ◌-◌, List, length, take, arith, Contains}
use Rattle.std.proofs.lemmas.List.Elements.{All-weaker, All-contains_itself}
use Rattle.std.proofs.lemmas.List.{length-take-le}
use Rattle.search_model.specs.Problem.{Problem}
use Rattle.search_model.specs.Legal.{IsPath}
use Rattle.search_model.specs.Bounds.{gain_of}
use Rattle.belief_update.specs.Belief.{BeliefState}
use Rattle.belief_update.specs.Onward.{OnwardState, IsOnward}
use Rattle.belief_update.specs.Taken.{TakenState, IsTakenTo, IsBeside}
use Rattle.belief_update.specs.Trails.{row_at}
use Rattle.belief_update.proofs.OnwardRows.{belief_at}
use Rattle.backward_mass.proofs.Tables.{filled_later}
use Rattle.longest_walk.proofs.NearEntries.{near_more}
use Rattle.longest_walk.proofs.NearSteps.{near_within}
use Rattle.tangent_bound.proofs.gains.fill_rows.Goals as goal

pub fill_row-requires-clause-inside : goal.fill_row-requires-clause-inside
fill_row-requires-clause-inside c =
    let p = c.args.sc.now in
    let sound = c.grid.ensures.sound in
    let some = c.within-some.result.now in
    All-weaker (Contains some) (λ a. a < p.positions)
    (λ a listed.
    let near = rw c.grid.ensures.value at ((c.within-some.ensures a).0 listed) in
    omega (arith, near_within p.moves sound.grid _ c.args.from a (omega (arith, c.requires.from, sound.grid_positions)) near, sound.grid_positions)) some (All-contains_itself some)

-- what the reference's looks up to a period took, beside the belief without them
met : (p : Problem) (x : List ℕ) (k n : ℕ) (o : OnwardState) (b : BeliefState) (s : TakenState) → IsPath p x → IsOnward p (take k x) o → IsTakenTo p (take k x) x (n + 1) s → k ≤ n → n < p.horizon → b ≡ row_at o.rows (n + 1 - 1) →
    (s.period ≡ n + 1) × IsBeside p (take k x) (take (n + 1) x) b s
met p x k n o b s path on to order more same =
    let front : length (take k x) ≡ k = length-take-le k x (omega (arith, path.whole, order, more)) in
    let later : length (take k x) < n + 1 = omega (arith, front, order) in
    let period = to.period later in
    (period, record { belief = rw period (belief_at p (take k x) o (n + 1) b on later (omega (arith, more)) same); taken = to.taken later })

pub loop-n-preserved : goal.loop-n-preserved
loop-n-preserved c =
    let p = c.args.sc.now in
    let x = c.args.reference.now in
    let n = c.loop-n.n in
    let back : n + 1 - 1 ≡ n = omega arith in
    let more : n < p.horizon = omega (arith, c.loop-n-test.true, c.horizon-n-end.ensures.value) in
    let (period, beside) = met p x c.args.k n c.args.onward.now c.at.result.now c.take_on.new.taken c.requires.path c.requires.onward c.take_on.ensures (omega (arith, c.requires.order, c.loop-n.auto.n)) more c.at.ensures in
    let row = c.fill_row.ensures.row x (record { path = c.requires.path; period = period; taken = (take c.args.k x, beside); backward = filled_later p x (c.args.j + 1) (n + 1) c.args.backward.now (omega arith) c.requires.backward }) in
    record {
      gains = near_more p.moves c.grid.ensures.sound.grid p.positions (gain_of p c.args.rate x) c.args.from c.args.j c.loop-n.gains c.fill_row.new.gains n c.grid.ensures.sound.grid_positions
          (omega (arith, c.requires.from, c.grid.ensures.sound.grid_positions)) c.loop-n.invariant.gains
          (λ a near. rw back at (row a ((c.within-some.ensures a).1 (rw c.grid.ensures.value near)))) (rw back at c.fill_row.ensures.earlier);
      taken = c.take_on.ensures;
    }

pub fill_row-requires-clause-met : goal.fill_row-requires-clause-met
fill_row-requires-clause-met c =
    let p = c.args.sc.now in
    let x = c.args.reference.now in
    let n = c.loop-n.n in
    let more : n < p.horizon = omega (arith, c.loop-n-test.true, c.horizon-n-end.ensures.value) in
    let (period, beside) = met p x c.args.k n c.args.onward.now c.at.result.now c.take_on.new.taken c.requires.path c.requires.onward c.take_on.ensures (omega (arith, c.requires.order, c.loop-n.auto.n)) more c.at.ensures in
    (x, record { path = c.requires.path; period = period; taken = (take c.args.k x, beside); backward = filled_later p x (c.args.j + 1) (n + 1) c.args.backward.now (omega arith) c.requires.backward })
