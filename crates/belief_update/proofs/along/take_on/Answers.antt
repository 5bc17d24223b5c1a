use Rattle.std.proofs.Common.{ℕ, ◌≡◌, ◌<◌, ◌≤◌, ◌+◌, ◌-◌, ◌++◌, ◌∷◌, [], List, length, slice_index, take, sym, ap, subst, arith}
use Rattle.std.proofs.lemmas.List.{length-take-le}
use Rattle.search_model.specs.Problem.{Problem, IsProblem}
use Rattle.search_model.specs.Legal.{IsLegal}
use Rattle.search_model.proofs.PlainSteps.{positions_follow}
use Rattle.belief_update.specs.Masses.{looks_to}
use Rattle.belief_update.specs.Belief.{BeliefState, IsBelief}
use Rattle.belief_update.specs.Onward.{OnwardState, IsOnward}
use Rattle.belief_update.specs.Taken.{TakenState, IsTaken, IsTakenTo, IsReady}
use Rattle.belief_update.specs.Trails.{row_at, IsAhead}
use Rattle.belief_update.proofs.Looks.{length-looks_to}
use Rattle.belief_update.proofs.OnwardRows.{belief_at}
use Rattle.belief_update.proofs.TrailSteps.{front_more}
use Rattle.belief_update.proofs.along.take_on.Goals as goal

-- the belief of the next period, and what was taken in it
ready_for : (p : Problem) (x : List ℕ) (k n : ℕ) (o : OnwardState) (b : BeliefState) (s t : TakenState) → IsOnward p (take k x) o → IsTakenTo p (take k x) x n s → k < n → n < length x → n < p.horizon →
    b ≡ row_at o.rows (n + 1 - 1) → t.period ≡ s.period + 1 → IsTaken p (take k x) (take n x) t → IsReady p (take k x) (take n x) b t
ready_for p x k n o b s t on to more here short same next taken =
    let front : length (take k x) ≡ k = length-take-le k x (omega (arith, more, here)) in
    let long : length (take n x) ≡ n = length-take-le n x (omega (arith, here)) in
    let period : t.period ≡ n + 1 = omega (arith, next, to.period (omega (arith, front, more))) in
    record {
      next = omega (arith, period, long);
      beside = record {
        belief = rw period (belief_at p (take k x) o (n + 1) b on (omega (arith, front, more)) (omega (arith, short)) same);
        taken = taken;
      };
    }

-- the belief ahead of the first look
ahead_for : (p : Problem) (x : List ℕ) (k n : ℕ) (o : OnwardState) (b : BeliefState) → IsOnward p (take k x) o → n ≡ k → n < length x → n < p.horizon → b ≡ row_at o.rows (n + 1 - 1) → IsAhead p (take k x) b
ahead_for p x k n o b on first here short same =
    let front : length (take k x) ≡ k = length-take-le k x (omega (arith, first, here)) in
    let next : n + 1 ≡ length (take k x) + 1 = omega (arith, front, first) in
    subst (λ (t : ℕ). IsBelief p (looks_to t (take k x)) b) next (belief_at p (take k x) o (n + 1) b on (omega (arith, front, first)) (omega (arith, short)) same)

-- the position of a look
position : (p : Problem) → IsProblem p → (x : List ℕ) → IsLegal p x → (n : ℕ) → n < length x → slice_index x n < p.positions
position p sound x legal n here = positions_follow p sound p.start (omega (arith, sound.start, sound.grid_positions)) x legal.follows n 0 here

pub start-requires-clause-position : goal.start-requires-clause-position
start-requires-clause-position c =
    rw c.cells.ensures.value (position c.args.sc.now c.recall_sound.ensures c.args.path.now c.requires.path c.args.looks c.requires.more)

pub start-requires-clause-ahead : goal.start-requires-clause-ahead
start-requires-clause-ahead c =
    let p = c.args.sc.now in
    (take c.args.k c.args.path.now, ahead_for p c.args.path.now c.args.k c.args.looks c.args.onward.now c.at-ahead.result.now c.requires.onward c.if-looks-k.true c.requires.more (omega (arith, c.requires.more, c.requires.path.short)) c.at-ahead.ensures)

-- the looks with one more are those up to the next one
more_taken : (p : Problem) (x : List ℕ) (k n : ℕ) (s : TakenState) → k ≤ n → n < length x → s.period ≡ n + 1 → IsTaken p (take k x) (take n x ++ slice_index x n ∷ []) s → IsTakenTo p (take k x) x (n + 1) s
more_taken p x k n s order here period taken = record {
  room = taken.cells;
  period = λ _. period;
  taken = λ _. rw (front_more x n here) taken;
}

pub returns-then-looks-k : goal.returns-then-looks-k
returns-then-looks-k c =
    let p = c.args.sc.now in
    let x = c.args.path.now in
    let k = c.args.k in
    let n = c.args.looks in
    let ahead = ahead_for p x k n c.args.onward.now c.at-ahead.result.now c.requires.onward c.if-looks-k.true c.requires.more (omega (arith, c.requires.more, c.requires.path.short)) c.at-ahead.ensures in
    let front : length (take k x) ≡ k = length-take-le k x (omega (arith, c.requires.order, c.requires.more)) in
    let period : c.start.new.self.period ≡ n + 1 = omega (arith, c.start.ensures.period, length-looks_to (length (take k x) + 1) (take k x) (omega arith), ahead.periods, front, c.if-looks-k.true) in
    let taken = rw c.cells.ensures.value at (c.start.ensures.taken (take k x) ahead) in
    let same : take k x ≡ take n x = ap (λ (m : ℕ). take m x) (sym c.if-looks-k.true) in
    more_taken p x k n c.start.new.self c.requires.order c.requires.more period (subst (λ (r : List ℕ). IsTaken p (take k x) (r ++ slice_index x n ∷ []) c.start.new.self) same taken)

pub drift-requires-clause-taken : goal.drift-requires-clause-taken
drift-requires-clause-taken c =
    let x = c.args.path.now in
    let k = c.args.k in
    let front : length (take k x) ≡ k = length-take-le k x (omega (arith, c.requires.order, c.requires.more)) in
    (take k x, take c.args.looks x, c.requires.taken.taken (omega (arith, front, c.requires.order, c.if-looks-k.false)))

pub drift-requires-clause-more : goal.drift-requires-clause-more
drift-requires-clause-more c =
    let x = c.args.path.now in
    let k = c.args.k in
    let front : length (take k x) ≡ k = length-take-le k x (omega (arith, c.requires.order, c.requires.more)) in
    omega (arith, c.requires.taken.period (omega (arith, front, c.requires.order, c.if-looks-k.false)), c.requires.more, c.requires.path.short)

pub look-requires-clause-ready : goal.look-requires-clause-ready
look-requires-clause-ready c =
    let p = c.args.sc.now in
    let x = c.args.path.now in
    let k = c.args.k in
    let n = c.args.looks in
    let more : k < n = omega (arith, c.requires.order, c.if-looks-k.false) in
    let front : length (take k x) ≡ k = length-take-le k x (omega (arith, more, c.requires.more)) in
    let after = ready_for p x k n c.args.onward.now c.at-ahead.result.now c.args.taken.now c.drift.new.self c.requires.onward c.requires.taken more c.requires.more (omega (arith, c.requires.more, c.requires.path.short)) c.at-ahead.ensures c.drift.ensures.period
    (c.drift.ensures.taken (take k x) (take n x) (c.requires.taken.taken (omega (arith, front, more)))) in
    (take k x, take n x, after)

pub look-requires-clause-position : goal.look-requires-clause-position
look-requires-clause-position c =
    rw c.cells.ensures.value (position c.args.sc.now c.recall_sound.ensures c.args.path.now c.requires.path c.args.looks c.requires.more)

pub returns-else-looks-k : goal.returns-else-looks-k
returns-else-looks-k c =
    let p = c.args.sc.now in
    let x = c.args.path.now in
    let k = c.args.k in
    let n = c.args.looks in
    let more : k < n = omega (arith, c.requires.order, c.if-looks-k.false) in
    let front : length (take k x) ≡ k = length-take-le k x (omega (arith, more, c.requires.more)) in
    let after = ready_for p x k n c.args.onward.now c.at-ahead.result.now c.args.taken.now c.drift.new.self c.requires.onward c.requires.taken more c.requires.more (omega (arith, c.requires.more, c.requires.path.short)) c.at-ahead.ensures c.drift.ensures.period
    (c.drift.ensures.taken (take k x) (take n x) (c.requires.taken.taken (omega (arith, front, more)))) in
    let long : length (take n x) ≡ n = length-take-le n x (omega (arith, c.requires.more)) in
    let taken = rw c.cells.ensures.value at (c.look.ensures.taken (take k x) (take n x) after) in
    more_taken p x k n c.look.new.self c.requires.order c.requires.more (omega (arith, c.look.ensures.period, after.next, long)) taken
