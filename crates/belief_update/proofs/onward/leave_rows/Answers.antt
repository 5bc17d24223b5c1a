use Rattle.std.proofs.Common.{◌≡◌, ◌<◌, ◌+◌, ◌-◌, ◌++◌, ◌∷◌, [], ℕ, List, length, arith, length-append}
use Rattle.search_model.specs.Problem.{Problem}
use Rattle.belief_update.specs.Masses.{looks_to}
use Rattle.belief_update.specs.Belief.{BeliefState, IsBelief}
use Rattle.belief_update.specs.Taken.{TakenState, IsTaken, IsLater}
use Rattle.belief_update.specs.Onward.{IsOnward, OnwardState}
use Rattle.belief_update.specs.Trails.{row_at}
use Rattle.belief_update.proofs.OnwardRows.{row_more, belief_at, cells_set, cells_at}
use Rattle.belief_update.proofs.onward.leave_rows.Goals as goal

-- the belief of a later period, and what the look took
beside : (p : Problem) (q : List ℕ) (a t : ℕ) (o : OnwardState) (b : BeliefState) (s : TakenState) → IsOnward p q o → length q < t → t < p.horizon → s.period ≡ t + 1 → b ≡ row_at o.rows (t + 1 - 1) → IsTaken p q (q ++ a ∷ []) s → IsLater p q (q ++ a ∷ []) b s
beside p q a t o b s on later short period same taken = record {
  one = length-append q (a ∷ []);
  later = omega (arith, length-append q (a ∷ []), later, period);
  beside = record {
    belief = rw period (belief_at p q o (t + 1) b on (omega (arith, later)) (omega (arith, short)) same);
    taken = taken;
  };
}

pub loop-t-init : goal.loop-t-init
loop-t-init c = record {
  cells = c.requires.cells;
  period = c.requires.period;
  taken = c.requires.taken;
  rows = λ q size on t later last. absurd (omega (arith, size, later, last, length-append q (c.args.a ∷ [])));
}

pub drift-requires-clause-taken : goal.drift-requires-clause-taken
drift-requires-clause-taken c =
    let (q, size, on) = c.requires.before in
    (q, q ++ c.args.a ∷ [], c.loop-t.invariant.taken q size on)

pub leave_from-requires-clause-cells : goal.leave_from-requires-clause-cells
leave_from-requires-clause-cells c =
    cells_at c.args.sc.now (c.args.k + 1) c.loop-t.t c.loop-t.rows c.index-rows-t.result c.loop-t.invariant.cells c.loop-t.auto.t (omega (arith, c.loop-t-test.true, c.loop-t.auto.rows))

pub leave_from-requires-clause-later : goal.leave_from-requires-clause-later
leave_from-requires-clause-later c =
    let p = c.args.sc.now in
    let a = c.args.a in
    let t = c.loop-t.t in
    let (q, size, on) = c.requires.before in
    let short : t < p.horizon = omega (arith, c.loop-t-test.true, c.loop-t.auto.rows, c.requires.size) in
    let period : c.drift.new.self.period ≡ t + 1 = omega (arith, c.drift.ensures.period, c.loop-t.invariant.period) in
    (q, q ++ a ∷ [], beside p q a t c.args.before.now c.at.result.now c.drift.new.self on (omega (arith, size, c.loop-t.auto.t)) short period c.at.ensures (c.drift.ensures.taken q (q ++ a ∷ []) (c.loop-t.invariant.taken q size on)))

pub loop-t-preserved : goal.loop-t-preserved
loop-t-preserved c =
    let p = c.args.sc.now in
    let a = c.args.a in
    let t = c.loop-t.t in
    let short : t < p.horizon = omega (arith, c.loop-t-test.true, c.loop-t.auto.rows, c.requires.size) in
    let here : t < length c.loop-t.rows = omega (arith, c.loop-t-test.true, c.loop-t.auto.rows) in
    let period : c.drift.new.self.period ≡ t + 1 = omega (arith, c.drift.ensures.period, c.loop-t.invariant.period) in
    let taken : (q : List ℕ) → length q ≡ c.args.k → IsOnward p q c.args.before.now → IsTaken p q (q ++ a ∷ []) c.drift.new.self = λ q size on.
    c.drift.ensures.taken q (q ++ a ∷ []) (c.loop-t.invariant.taken q size on) in
    let left : (q : List ℕ) → length q ≡ c.args.k → IsOnward p q c.args.before.now → IsBelief p (looks_to (t + 1) (q ++ a ∷ [])) c.leave_from.new.self = λ q size on.
    let later = beside p q a t c.args.before.now c.at.result.now c.drift.new.self on (omega (arith, size, c.loop-t.auto.t)) short period c.at.ensures (taken q size on) in
    rw period at (c.leave_from.ensures q (q ++ a ∷ []) later) in
    let (some, some_size, some_on) = c.requires.before in
    record {
      cells = cells_set p (c.args.k + 1) t c.loop-t.rows c.leave_from.new.self here (left some some_size some_on).cells c.loop-t.invariant.cells;
      period = period;
      taken = taken;
      rows = λ q size on. row_more p (q ++ a ∷ []) t c.loop-t.rows c.leave_from.new.self here (c.loop-t.invariant.rows q size on) (left q size on);
    }

pub returns-clause-rows : goal.returns-clause-rows
returns-clause-rows c q size on u later last = c.loop-t.invariant.rows q size on u later (omega (arith, last, c.loop-t-test.false, c.loop-t.auto.rows, c.requires.size))

pub returns-clause-room : goal.returns-clause-room
returns-clause-room c =
    let (q, size, on) = c.requires.before in
    (c.loop-t.invariant.taken q size on).cells
