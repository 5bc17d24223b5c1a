-- Beliefs after a prefix, one period more.
use Rattle.std.proofs.Common.{ℕ, ◌+◌, ◌-◌, ◌<◌, ◌≤◌, ◌≡◌, false, List, [], length, set, slice_index_or, arith, inl, inr, sym, ap, ◌∙◌, get_or-set_same, get_or-set_other, length-set}
use Rattle.std.proofs.lemmas.Bool.{cases_lt, cases_order}
use Rattle.std.proofs.lemmas.List.{get_or_default}
use Rattle.search_model.specs.Problem.{Problem}
use Rattle.belief_update.specs.Masses.{looks_to}
use Rattle.belief_update.specs.Belief.{BeliefState, IsBelief}
use Rattle.belief_update.specs.Trails.{row_at}
use Rattle.belief_update.specs.Onward.{OnwardState, AreOnwardTo, IsOnward, HaveCellsFrom, IsMadeFor, IsMadeBehind}

-- no belief
abbrev no_belief : BeliefState
no_belief = record { period = 0; looked = false; masses = [] }

-- the beliefs up to period t, and that of the next one behind them
pub row_more : (p : Problem) (q : List ℕ) (t : ℕ) (rows : List BeliefState) (b : BeliefState) → t < length rows → AreOnwardTo p q t rows → IsBelief p (looks_to (t + 1) q) b → AreOnwardTo p q (t + 1) (set rows t b)
row_more p q t rows b here each belief u later last = elim (cases_lt t u) [
  | inl past ↦
      let same : u ≡ t + 1 = omega (arith, past, last) in
      let row : t + 1 - 1 ≡ t = omega arith in
      rw (same, row, get_or-set_same rows t b (record { period = 0; looked = false; masses = [] }) here) belief
  | inr before ↦
      rw (get_or-set_other rows t (u - 1) b (record { period = 0; looked = false; masses = [] }) (λ e. omega (arith, e, later, before))) (each u later before)
]

-- what is read of them is the belief of its period
pub belief_at : (p : Problem) (q : List ℕ) (o : OnwardState) (t : ℕ) (b : BeliefState) → IsOnward p q o → length q < t → t ≤ p.horizon → b ≡ row_at o.rows (t - 1) → IsBelief p (looks_to t q) b
belief_at p q o t b onward later last same = rw same (onward.each t later last)

-- with another belief over all cells the rows still are
pub cells_set : (p : Problem) (k t : ℕ) (rows : List BeliefState) (b : BeliefState) → t < length rows → length b.masses ≡ p.cells → HaveCellsFrom p k rows → HaveCellsFrom p k (set rows t b)
cells_set p k t rows b here cells have u later inside = elim (cases_order u t) [
  | inl same ↦ rw (same, get_or-set_same rows t b no_belief here) cells
  | inr apart ↦ rw (get_or-set_other rows t u b no_belief (λ e. omega (arith, e, apart))) (have u later (omega (arith, inside, length-set rows t b)))
]

-- a row that is read there is over all cells
pub cells_at : (p : Problem) (k t : ℕ) (rows : List BeliefState) (d : BeliefState) → HaveCellsFrom p k rows → k ≤ t → t < length rows → length (slice_index_or rows t d).masses ≡ p.cells
cells_at p k t rows d have later inside = ap (λ (b : BeliefState). length b.masses) (sym (get_or_default rows t no_belief d inside)) ∙ have t later inside

-- what is made for all periods is made for those after no look
pub made_behind_none : (p : Problem) (o : OnwardState) → IsMadeFor p o → IsMadeBehind p 0 o
made_behind_none p o made = record { size = made.size; cells = λ t later inside. made.cells t no_belief inside }
