-- The gains of one more look, along a reference path: forward masses meet backward masses.
use Rattle.std.specs.Prelude.{ℕ, ◌≡◌, ◌*◌, nat_lt, if◌then◌else◌, List, take, sum_by, Contains}
use Rattle.period_rows.specs.declared.part.CellPart.{CellPart}
use Rattle.sweep_table.specs.LookParts.{look_row}
use Rattle.search_model.specs.Problem.{Problem}
use Rattle.search_model.specs.Legal.{IsPath}
use Rattle.search_model.specs.Bounds.{gain_of}
use Rattle.belief_update.specs.Belief.{BeliefState}
use Rattle.belief_update.specs.Taken.{TakenState, IsBeside}
use Rattle.search_model.specs.Following.{forward_of}
use Rattle.backward_mass.specs.Masses.{backward_of}
use Rattle.backward_mass.specs.Table.{BackwardTable, IsFilledFrom}
use Rattle.longest_walk.specs.Sums.{entry_at}
use Rattle.longest_walk.specs.Tables.{HasNear}

-- what the looks of a path up to period t took, with the belief of that period without those looks, and the backward masses of the
-- same path from then on
pub record IsMet (p : Problem) (x : List ℕ) (t : ℕ) (b : BeliefState) (s : TakenState) (w : BackwardTable) : Type 0 where
  pub path : IsPath p x
  pub period : s.period ≡ t
  pub taken : (q : List ℕ) × IsBeside p q (take t x) b s
  pub backward : IsFilledFrom p x t w

-- what a path misses of the tracks that are in cell c in period t
abbrev pub missed_in : Problem → List ℕ → ℕ → ℕ → ℕ
missed_in p x t c = forward_of p (take t x) t c * backward_of p x t c

-- the same of an entry's cell, where a look over the entry finds something there
abbrev pub missed_at : Problem → List ℕ → ℕ → CellPart → ℕ
missed_at p x t entry = if nat_lt entry.part p.sweep.denominator then missed_in p x t entry.cell else 0

-- what a path misses of all tracks that a look from position a covers in period t
abbrev pub missed_by_look : Problem → List ℕ → ℕ → ℕ → ℕ
missed_by_look p x t a = sum_by (missed_at p x t) (look_row p.sweep t a)

-- the numbers of some positions in a period are the gains of its looks
abbrev pub IsGainRow : Problem → ℕ → List ℕ → ℕ → List ℕ → List ℕ → Type 0
IsGainRow p rate x t some gains = (a : ℕ) → Contains some a → entry_at p.positions gains t a ≡ gain_of p rate x t a

-- so are the numbers of each period after k up to t for the positions that are within reach of one then
abbrev pub AreGains : Problem → ℕ → List ℕ → ℕ → ℕ → ℕ → List ℕ → Type 0
AreGains p rate x from k t gains = HasNear p.moves p.positions t (gain_of p rate x) from k gains
