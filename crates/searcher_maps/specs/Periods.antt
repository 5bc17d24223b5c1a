-- Rows of looks that are given period by period.
use Rattle.std.specs.Prelude.{ℕ, ◌≡◌, ◌-◌, ◌≤◌, List, [], length, map, slice_index_or, All}
use Rattle.std.specs.Global.{Vec}
use Rattle.period_rows.specs.declared.part.CellPart.{CellPart}
use Rattle.sweep_table.specs.LookParts.{IsLookRow}

-- as contracts see them: per period, and in it per position, a row
abbrev pub rows_by_period : List (Vec (Vec CellPart)) → List (List (List CellPart))
rows_by_period periods = map (λ period. map (λ row. row.items) period.items) periods

-- the number of positions: as many as there are rows for period 1
abbrev pub positions_given : List (List (List CellPart)) → ℕ
positions_given given = length (slice_index_or given 0 [])

-- the row from position a in period t
abbrev pub row_given : List (List (List CellPart)) → ℕ → ℕ → List CellPart
row_given given t a = slice_index_or (slice_index_or given (t - 1) []) a []

-- rows for 1 to 32 periods, in each for the same 1 to 200 positions, and each a row of looks over so many cells
pub record AreLookRows (denominator cells : ℕ) (given : List (List (List CellPart))) : Type 0 where
  pub periods : (1 ≤ length given) × (length given ≤ 32)
  pub positions : (1 ≤ positions_given given) × (positions_given given ≤ 200)
  pub same : All (λ rows. length rows ≡ positions_given given) given
  pub right : All (All (IsLookRow denominator cells)) given
