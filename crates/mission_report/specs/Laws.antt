-- What the masses of a period say together, and what they are of a belief.
use Rattle.std.specs.Prelude.{ℕ, ◌≡◌, ◌<◌, ◌≤◌, ◌+◌, ◌*◌, ◌-◌, ◌^◌, List, Some, map, take, length, sum}
use Rattle.search_model.specs.Problem.{Problem, IsProblem}
use Rattle.search_model.specs.Tracks.{missed_weight, whole_weight, value_of}
use Rattle.belief_update.specs.Masses.{mass_of}
use Rattle.mission_report.specs.Account.{value_up_to, mass_in, masses_in, masses_left}

-- the masses of a period sum to what the looks up to then miss
abbrev pub MassesAreMissed : Type 0
MassesAreMissed = (p : Problem) → IsProblem p → (q : List ℕ) (t : ℕ) → 1 ≤ t → t ≤ p.horizon → sum (masses_in p q t) ≡ missed_weight p (take t q)

-- what the looks up to a period find and what they leave then make the whole weight
abbrev pub FoundAndLeftUpTo : Type 0
FoundAndLeftUpTo = (p : Problem) → IsProblem p → (q : List ℕ) (t : ℕ) → 1 ≤ t → t ≤ p.horizon → value_up_to p q t + sum (masses_in p q t) ≡ whole_weight p

-- in a period of a prefix, the mass of a cell is that of the belief after the look, but for the parts of the steps and of
-- the looks to come
abbrev pub MassesByBelief : Type 0
MassesByBelief =
    (p : Problem) → IsProblem p → (q : List ℕ) (t c : ℕ) → 1 ≤ t → t ≤ length q → t ≤ p.horizon → c < p.cells →
    mass_in p q t c ≡ mass_of p (map Some (take t q)) c * (p.drift.denominator * p.sweep.denominator) ^ (p.horizon - t)

-- the masses that a path leaves sum to what its looks miss
abbrev pub LeftIsMissed : Type 0
LeftIsMissed = (p : Problem) → IsProblem p → (q : List ℕ) → sum (masses_left p q) ≡ missed_weight p q

-- what a path finds and what it leaves make the whole weight
abbrev pub FoundAndLeft : Type 0
FoundAndLeft = (p : Problem) → IsProblem p → (q : List ℕ) → value_of p q + sum (masses_left p q) ≡ whole_weight p
