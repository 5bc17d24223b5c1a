use Rattle.std.proofs.Common.{ℕ, ◌≡◌, ◌<◌, ◌≤◌, ◌+◌, ◌-◌, List, length, take, subst, arith}
use Rattle.std.proofs.lemmas.List.{length-take-le, take_all}
use Rattle.search_model.specs.Problem.{Problem}
use Rattle.belief_update.specs.Belief.{BeliefState}
use Rattle.belief_update.specs.Masses.{AreBehind, looks_to}
use Rattle.belief_update.specs.Onward.{OnwardState, IsOnward}
use Rattle.belief_update.specs.Taken.{TakenState, IsTaken, IsTakenTo, IsBeside}
use Rattle.belief_update.specs.Trails.{row_at}
use Rattle.belief_update.proofs.BeliefSteps.{mass_at}
use Rattle.belief_update.proofs.LevelSteps.{all_taken}
use Rattle.belief_update.proofs.OnwardRows.{belief_at}
use Rattle.belief_update.proofs.levels.leave_behind.Goals as goal

-- where the prefix is that of the level, its masses are those behind it
level_itself : (p : Problem) (q : List ℕ) (k looks : ℕ) (o : OnwardState) (b : BeliefState) → looks ≡ length q → k ≡ looks → length q < p.horizon → IsOnward p (take k q) o → b ≡ row_at o.rows (looks + 1 - 1) → AreBehind p q b.masses
level_itself p q k looks o b whole here short on same c cell =
    let all : take k q ≡ q = take_all k q (omega (arith, whole, here)) in
    let after : IsOnward p q o = subst (λ (r : List ℕ). IsOnward p r o) all on in
    let next : looks + 1 ≡ length q + 1 = omega (arith, whole) in
    rw (← next) (mass_at p (looks_to (looks + 1) q) b (belief_at p q o (looks + 1) b after (omega (arith, whole)) (omega (arith, whole, short)) same) c cell)

-- what the later looks took of the level, a period on, beside the belief of that period
beside_level : (p : Problem) (q : List ℕ) (k looks : ℕ) (o : OnwardState) (b : BeliefState) (s t : TakenState) → looks ≡ length q → k ≤ length q → (k ≡ looks → ⊥) → length q < p.horizon → IsOnward p (take k q) o → b ≡ row_at o.rows (looks + 1 - 1) →
    IsTakenTo p (take k q) q looks s → t.period ≡ s.period + 1 → (IsTaken p (take k q) q s → IsTaken p (take k q) q t) → IsBeside p (take k q) q b t × (t.period ≡ length q + 1)
beside_level p q k looks o b s t whole inside fewer short on same to next drifts =
    let front : length (take k q) ≡ k = length-take-le k q inside in
    let more : length (take k q) < looks = omega (arith, front, inside, whole, fewer) in
    let period : t.period ≡ looks + 1 = omega (arith, next, to.period more) in (
      record {
        belief = rw period (belief_at p (take k q) o (looks + 1) b on (omega (arith, more)) (omega (arith, whole, short)) same);
        taken = drifts (all_taken p q k looks s whole inside fewer to);
      },
      omega (arith, period, whole),
    )

pub returns-then-k-looks-clause-each : goal.returns-then-k-looks-clause-each
returns-then-k-looks-clause-each c =
    let masses = level_itself c.args.sc.now c.args.prefix.now c.args.k c.len-looks.result c.args.onward.now c.at-ahead.result.now c.len-looks.ensures.value c.if-k-looks.true c.requires.short c.requires.onward c.at-ahead.ensures in
    rw (c.copy_from_slice.ensures.after, c.masses.ensures) masses

pub leave-requires-clause-beside : goal.leave-requires-clause-beside
leave-requires-clause-beside c =
    let q = c.args.prefix.now in
    let (is, period) =
    beside_level c.args.sc.now q c.args.k c.len-looks.result c.args.onward.now c.at-ahead.result.now c.take_along.new.taken c.drift.new.self c.len-looks.ensures.value c.requires.inside c.if-k-looks.false c.requires.short c.requires.onward c.at-ahead.ensures
    c.take_along.ensures c.drift.ensures.period (c.drift.ensures.taken (take c.args.k q) q) in
    (take c.args.k q, q, is)

-- the same once all is written
beside : (c : goal.After-slice_known-2-1) → IsBeside c.args.sc.now (take c.args.k c.args.prefix.now) c.args.prefix.now c.at-ahead.result.now c.drift.new.self × (c.drift.new.self.period ≡ length c.args.prefix.now + 1)
beside c =
    let q = c.args.prefix.now in
    beside_level c.args.sc.now q c.args.k c.len-looks.result c.args.onward.now c.at-ahead.result.now c.take_along.new.taken c.drift.new.self c.len-looks.ensures.value c.requires.inside c.if-k-looks.false c.requires.short c.requires.onward c.at-ahead.ensures
    c.take_along.ensures c.drift.ensures.period (c.drift.ensures.taken (take c.args.k q) q)

pub returns-clause-each : goal.returns-clause-each
returns-clause-each c =
    let (is, period) = beside c in
    rw (← period) (c.leave.ensures (take c.args.k c.args.prefix.now) c.args.prefix.now is)

pub returns-clause-room : goal.returns-clause-room
returns-clause-room c = (beside c).0.taken.cells
