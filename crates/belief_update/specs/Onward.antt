-- Beliefs after a prefix, period by period.
use Rattle.std.specs.Prelude.{ℕ, ◌≡◌, ◌-◌, ◌<◌, ◌≤◌, List, length}
use Rattle.search_model.specs.Problem.{Problem}
use Rattle.search_model.specs.Tracks.{value_of}
use Rattle.belief_update.specs.Masses.{looks_to}
use Rattle.belief_update.specs.Belief.{BeliefState, IsBelief}
use Rattle.belief_update.specs.Trails.{row_at, HaveAllCells}

-- what contracts see: the belief that goes on, one for each period, and a value
pub record OnwardState : Type 0 where
  pub belief : BeliefState
  pub rows : List BeliefState
  pub value : ℕ

-- made for this scenario
pub record IsMadeFor (p : Problem) (o : OnwardState) : Type 0 where
  pub belief : length o.belief.masses ≡ p.cells
  pub size : length o.rows ≡ p.horizon
  pub cells : HaveAllCells p o.rows

-- the beliefs from place k on are over all cells
abbrev pub HaveCellsFrom : Problem → ℕ → List BeliefState → Type 0
HaveCellsFrom p k rows = (t : ℕ) → k ≤ t → t < length rows → length (row_at rows t).masses ≡ p.cells

-- made for the periods of this scenario after the first k
pub record IsMadeBehind (p : Problem) (k : ℕ) (o : OnwardState) : Type 0 where
  pub size : length o.rows ≡ p.horizon
  pub cells : HaveCellsFrom p k o.rows

-- the beliefs of the periods after a prefix, up to a last one, with no look after the prefix
abbrev pub AreOnwardTo : Problem → List ℕ → ℕ → List BeliefState → Type 0
AreOnwardTo p q last rows = (t : ℕ) → length q < t → t ≤ last → IsBelief p (looks_to t q) (row_at rows (t - 1))

-- the beliefs of all periods after a prefix, and its value
pub record IsOnward (p : Problem) (q : List ℕ) (o : OnwardState) : Type 0 where
  pub size : length o.rows ≡ p.horizon
  pub each : AreOnwardTo p q p.horizon o.rows
  pub value : o.value ≡ value_of p q

-- the beliefs of all periods after some prefix of so many positions
abbrev pub IsOnwardBehind : Problem → ℕ → OnwardState → Type 0
IsOnwardBehind p k o = (q : List ℕ) × (length q ≡ k) × IsOnward p q o
