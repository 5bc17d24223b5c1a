-- The one rate of some parts, and the parts of the rows in force.
use Rattle.std.specs.Prelude.{ℕ, ◌≡◌, ◌⊎◌, Option, Some, None, List, map, All, Contains}
use Rattle.std.specs.List.{flat_map, range_with_len}
use Rattle.sweep_table.specs.LookParts.{LookParts, positions_of, look_row}

-- each of some parts is the rate or the denominator
abbrev pub AreEither : ℕ → ℕ → List ℕ → Type 0
AreEither denominator rate parts = All (λ part. (part ≡ rate) ⊎ (part ≡ denominator)) parts

-- and the rate is one of them, or the denominator
pub record IsRateOf (denominator : ℕ) (parts : List ℕ) (rate : ℕ) : Type 0 where
  pub either : AreEither denominator rate parts
  pub reached : (rate ≡ denominator) ⊎ Contains parts rate

-- the rate of some parts, or that they have none
abbrev pub TellsRate : ℕ → List ℕ → Option ℕ → Type 0
TellsRate denominator parts None = (rate : ℕ) → AreEither denominator rate parts → ⊥
TellsRate denominator parts (Some rate) = IsRateOf denominator parts rate

-- the parts of the row in force for position p in period t
abbrev pub parts_at : LookParts → ℕ → ℕ → List ℕ
parts_at sweep t p = map (λ entry. entry.part) (look_row sweep t p)

-- the parts of all rows in force in period t
abbrev pub parts_in_period : LookParts → ℕ → List ℕ
parts_in_period sweep t = flat_map (parts_at sweep t) (range_with_len 0 (positions_of sweep))

-- the parts of all rows in force in the periods 1 to the horizon
abbrev pub parts_up_to : LookParts → ℕ → List ℕ
parts_up_to sweep horizon = flat_map (parts_in_period sweep) (range_with_len 1 horizon)
