-- What looks and drift make of masses (Eagle 1984), and what masses say of values and of bounds.
use Rattle.std.specs.Prelude.{ℕ, ◌≡◌, ◌<◌, ◌≤◌, ◌+◌, ◌*◌, ◌^◌, ◌-◌, List, [], ◌∷◌, ◌++◌, Option, Some, None, length, sum, sum_by}
use Rattle.std.specs.List.{range_with_len}
use Rattle.drift_chain.specs.DriftRows.{part_of}
use Rattle.sweep_table.specs.LookParts.{factor_of}
use Rattle.search_model.specs.Problem.{Problem, IsProblem}
use Rattle.search_model.specs.Tracks.{missed_weight}
use Rattle.search_model.specs.Bounds.{reward_of}
use Rattle.search_model.specs.Following.{forward_of}
use Rattle.search_model.specs.Exchange.{drifted, mass_behind}
use Rattle.belief_update.specs.Masses.{mass_of, masses_of, looks_to}
use Rattle.belief_update.specs.Taken.{and_then, taken_of}

-- a look scales each mass by its factor
abbrev pub LooksScale : Type 0
LooksScale =
    (p : Problem) (looks : List (Option ℕ)) (a c : ℕ) →
    mass_of p (looks ++ Some a ∷ []) c ≡ mass_of p (looks ++ None ∷ []) c * factor_of p.sweep (length looks + 1) a c

-- the drift sends each mass on by the parts of its row
abbrev pub DriftSpreads : Type 0
DriftSpreads =
    (p : Problem) (looks : List (Option ℕ)) (t d : ℕ) → length looks ≡ t → 1 ≤ t →
    mass_of p (looks ++ None ∷ []) d ≡ sum_by (λ c. mass_of p looks c * part_of p.drift t c d) (range_with_len 0 p.cells)

-- in each period from its last look on, the masses after a prefix sum to what it misses, but for the parts of the steps
-- and of the looks to come
abbrev pub MissedByMasses : Type 0
MissedByMasses =
    (p : Problem) → IsProblem p → (q : List ℕ) (t : ℕ) → 1 ≤ t → length q ≤ t → t ≤ p.horizon →
    missed_weight p q ≡ sum (masses_of p (looks_to t q)) * p.drift.denominator ^ (p.horizon - t) * p.sweep.denominator ^ (p.horizon - length q)

-- the reward of a look in period t is what it finds of the masses that drifted on from the prefix without looks
abbrev pub RewardsByMasses : Type 0
RewardsByMasses =
    (p : Problem) → IsProblem p → (q : List ℕ) (t a : ℕ) → length q < t → t ≤ p.horizon →
    reward_of p q t a
    ≡ sum_by (λ c. mass_of p (looks_to t q) c * (p.sweep.denominator - factor_of p.sweep t a c)) (range_with_len 0 p.cells)
    * p.drift.denominator ^ (p.horizon - t) * p.sweep.denominator ^ (p.horizon - length q - 1)

-- the masses with a look more and what it took are the masses without it, times the denominator
abbrev pub OneLookMore : Type 0
OneLookMore =
    (p : Problem) → IsProblem p → (looks : List (Option ℕ)) (a n c : ℕ) →
    mass_of p (and_then looks (Some a) n) c + taken_of p looks a n c ≡ mass_of p (and_then looks None n) c * p.sweep.denominator

-- the mass of a cell with no look after a prefix is the forward mass of its looks
abbrev pub MassesForward : Type 0
MassesForward = (p : Problem) (q : List ℕ) (t c : ℕ) → length q ≤ t → mass_of p (looks_to t q) c ≡ forward_of p q t c

-- the masses behind a prefix drift on as those with no look after it
abbrev pub MassesDrift : Type 0
MassesDrift =
    (p : Problem) (q : List ℕ) (n d : ℕ) →
    drifted p (length q + 1) (mass_behind p q) n d ≡ mass_of p (looks_to (length q + 1 + n) q) d
