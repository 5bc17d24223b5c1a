-- What looks take of masses, in their own periods and in those after them.
use Rattle.std.specs.Prelude.{ℕ, zero, suc, ◌+◌, ◌*◌, ◌-◌, ◌^◌, ◌≡◌, ◌<◌, ◌≤◌, List, [], ◌∷◌, ◌++◌, Option, None, length, take, replicate, slice_index, sum_by}
use Rattle.std.specs.List.{range_with_len}
use Rattle.drift_chain.specs.DriftRows.{part_of}
use Rattle.sweep_table.specs.LookParts.{factor_of}
use Rattle.search_model.specs.Problem.{Problem}
use Rattle.belief_update.specs.Masses.{mass_of, looks_to}
use Rattle.belief_update.specs.Belief.{BeliefState, IsBelief}

-- a look, or none, in the period after some looks, and none in the n periods after that
abbrev pub and_then : List (Option ℕ) → Option ℕ → ℕ → List (Option ℕ)
and_then looks look n = looks ++ look ∷ replicate n None

-- what a look from position a in the period after these looks finds of the mass of each cell, drifted on for n periods
unfoldable pub taken_of : Problem → List (Option ℕ) → ℕ → ℕ → ℕ → ℕ
taken_of p looks a zero c = mass_of p (looks ++ None ∷ []) c * (p.sweep.denominator - factor_of p.sweep (length looks + 1) a c)
taken_of p looks a (suc n) d = sum_by (λ c. taken_of p looks a n c * part_of p.drift (length looks + suc n) c d) (range_with_len 0 p.cells)

-- what contracts see: the period, what masses without the looks are scaled by, and what is taken in each cell
pub record TakenState : Type 0 where
  pub period : ℕ
  pub scale : ℕ
  pub masses : List ℕ

-- what the later looks of a prefix r took of the masses after a shorter one, q: each mass after r, and what was taken of it, is the mass
-- after q, times the denominator for each look more
pub record IsTaken (p : Problem) (q r : List ℕ) (s : TakenState) : Type 0 where
  pub order : length q ≤ length r
  pub first : 1 ≤ s.period
  pub late : length r ≤ s.period
  pub last : s.period ≤ p.horizon
  pub cells : length s.masses ≡ p.cells
  pub scale : s.scale ≡ p.sweep.denominator ^ (length r - length q)
  pub each : (c : ℕ) → c < p.cells → mass_of p (looks_to s.period r) c + slice_index s.masses c ≡ mass_of p (looks_to s.period q) c * s.scale

-- what some looks took
abbrev pub IsTakenBySome : Problem → TakenState → Type 0
IsTakenBySome p s = (q : List ℕ) × (r : List ℕ) × IsTaken p q r s

-- what looks took, and the belief without them, in the same period
pub record IsBeside (p : Problem) (q r : List ℕ) (b : BeliefState) (s : TakenState) : Type 0 where
  pub belief : IsBelief p (looks_to s.period q) b
  pub taken : IsTaken p q r s

abbrev pub IsBesideSome : Problem → BeliefState → TakenState → Type 0
IsBesideSome p b s = (q : List ℕ) × (r : List ℕ) × IsBeside p q r b s

-- the next look is that of the period
pub record IsReady (p : Problem) (q r : List ℕ) (b : BeliefState) (s : TakenState) : Type 0 where
  pub next : s.period ≡ length r + 1
  pub beside : IsBeside p q r b s

abbrev pub IsReadySome : Problem → BeliefState → TakenState → Type 0
IsReadySome p b s = (q : List ℕ) × (r : List ℕ) × IsReady p q r b s

-- it was one look, in an earlier period
pub record IsLater (p : Problem) (q r : List ℕ) (b : BeliefState) (s : TakenState) : Type 0 where
  pub one : length r ≡ length q + 1
  pub later : length r < s.period
  pub beside : IsBeside p q r b s

abbrev pub IsLaterSome : Problem → BeliefState → TakenState → Type 0
IsLaterSome p b s = (q : List ℕ) × (r : List ℕ) × IsLater p q r b s

-- what the looks of a path after its front q took, up to the n-th look and in the period of that; nothing yet, where q has n looks
pub record IsTakenTo (p : Problem) (q x : List ℕ) (n : ℕ) (s : TakenState) : Type 0 where
  pub room : length s.masses ≡ p.cells
  pub period : length q < n → s.period ≡ n
  pub taken : length q < n → IsTaken p q (take n x) s
