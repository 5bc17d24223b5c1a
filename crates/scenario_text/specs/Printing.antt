-- The rows of the canonical text, as they are printed.
use Rattle.std.specs.Prelude.{ℕ, ◌-◌, ◌==◌, if◌then◌else◌, List, [], ◌∷◌, ◌++◌, map, codes}
use Rattle.std.specs.List.{range_with_len}
use Rattle.std.specs.Fmt.{decimal}
use Rattle.period_rows.specs.declared.part.CellPart.{CellPart}
use Rattle.period_rows.specs.Rows.{is_same_row}
use Rattle.drift_chain.specs.DriftRows.{row_of}
use Rattle.search_grid.specs.Moves.{moves_from}
use Rattle.sweep_table.specs.LookParts.{factor_of}
use Rattle.search_model.specs.Problem.{Problem, first_of, cell_name, position_name}
use Rattle.scenario_text.specs.declared.draft.TextVersion.{TextVersion}
use Rattle.scenario_text.specs.declared.draft.TextVersion.TheVariants.{One, Two}
use Rattle.scenario_text.specs.declared.row_sorts.RowSort.{RowSort}
use Rattle.scenario_text.specs.declared.row_sorts.RowSort.TheVariants.{Cells, Positions, Moves, Drift, Overlook, Looks}
use Rattle.scenario_text.specs.declared.row_sorts.ChangeSort.{ChangeSort}
use Rattle.scenario_text.specs.declared.row_sorts.ChangeSort.TheVariants.{DriftIn, LookIn}
use Rattle.scenario_text.specs.State.{PeriodRow}
use Rattle.scenario_text.specs.Canonical.{first_entries, covered, later_rows, is_plain}
use Rattle.scenario_text.specs.RowFields.{cell_row, first_row, moves_of, drift_of, overlook_of}
use Rattle.scenario_text.specs.StateRows.{version_row, position_row, drift_in_of, look_of, look_in_of}

-- the row of a sort for a cell or a position
abbrev pub sort_row : Problem → RowSort → ℕ → List (List ℕ)
sort_row p Cells c = cell_row (cell_name p c)
sort_row p Positions q = position_row (position_name p q)
sort_row p Moves q = moves_of p.position_names q (moves_from p.moves q)
sort_row p Drift c = drift_of p.names c (row_of p.drift 1 c)
sort_row p Overlook q = overlook_of p.position_names q (factor_of p.sweep 1 q q)
sort_row p Looks q = look_of p.names p.position_names q (covered p 1 q)

-- how many have one
abbrev pub sort_owners : Problem → RowSort → ℕ
sort_owners p Cells = p.cells
sort_owners p Positions = p.positions
sort_owners p Moves = p.positions
sort_owners p Drift = p.cells
sort_owners p Overlook = p.positions
sort_owners p Looks = p.positions

-- the rows of a sort, in order
abbrev pub sort_rows : Problem → RowSort → List (List (List ℕ))
sort_rows p sort = map (sort_row p sort) (range_with_len 0 (sort_owners p sort))

-- what is in force in period t for a cell or a position
abbrev pub in_force : Problem → ChangeSort → ℕ → ℕ → List CellPart
in_force p DriftIn t c = row_of p.drift t c
in_force p LookIn t q = covered p t q

-- how many have such a row, and the last period of one
abbrev pub change_owners : Problem → ChangeSort → ℕ
change_owners p DriftIn = p.cells
change_owners p LookIn = p.positions

abbrev pub change_last : Problem → ChangeSort → ℕ
change_last p DriftIn = p.horizon - 1
change_last p LookIn = p.horizon

-- the period after which no text has such a row
abbrev pub change_limit : ChangeSort → ℕ
change_limit DriftIn = 31
change_limit LookIn = 32

-- the row of one period
abbrev pub change_row : Problem → ChangeSort → PeriodRow → List (List ℕ)
change_row p DriftIn r = drift_in_of p.names r
change_row p LookIn r = look_in_of p.names p.position_names r

-- it stands where it isn't that of period 1
abbrev pub change_at : Problem → ChangeSort → ℕ → ℕ → List PeriodRow
change_at p sort t c = if is_same_row (in_force p sort t c) (in_force p sort 1 c) then [] else record { period = t; own = c; row = in_force p sort t c } ∷ []

-- in all periods but the first
abbrev pub change_rows : Problem → ChangeSort → List (List (List ℕ))
change_rows p sort = map (change_row p sort) (later_rows (in_force p sort) (change_owners p sort) (change_last p sort))

-- the entry of a cell with a positive first part
abbrev pub first_entry : Problem → ℕ → List CellPart
first_entry p c = if first_of p c == 0 then [] else record { cell = c; part = first_of p c } ∷ []

-- and that of a cell that a look covers, where it doesn't miss all of it
abbrev pub covered_entry : Problem → CellPart → List CellPart
covered_entry p e = if e.part == p.sweep.denominator then [] else record { cell = e.cell; part = e.part } ∷ []

-- the row of the horizon
abbrev pub horizon_row : Problem → List (List ℕ)
horizon_row p = codes "horizon" ∷ decimal p.horizon ∷ []

-- and that of what first parts, drift parts and parts that are missed are parts of
abbrev pub wholes_row : Problem → List (List ℕ)
wholes_row p = codes "parts" ∷ decimal p.total ∷ decimal p.drift.denominator ∷ decimal p.sweep.denominator ∷ []

-- the first three rows
abbrev pub head_rows : TextVersion → Problem → List (List (List ℕ))
head_rows version p = version_row version ∷ horizon_row p ∷ wholes_row p ∷ []

-- and the cells
abbrev pub front_rows : TextVersion → Problem → List (List (List ℕ))
front_rows version p = head_rows version p ++ sort_rows p Cells

-- the row of the start
abbrev pub start_row : Problem → List (List ℕ)
start_row p = codes "start" ∷ position_name p p.start ∷ []

-- it and that of the first parts
abbrev pub start_rows : Problem → List (List (List ℕ))
start_rows p = start_row p ∷ first_row p.names (first_entries p) ∷ []

-- the rows from the start to the drift rows
abbrev pub body_rows : Problem → List (List (List ℕ))
body_rows p = start_rows p ++ (sort_rows p Moves ++ sort_rows p Drift)

-- the rows behind them in version 2
abbrev pub later_change_rows : Problem → List (List (List ℕ))
later_change_rows p = change_rows p DriftIn ++ (sort_rows p Looks ++ change_rows p LookIn)

-- the rows of each version but the last one
abbrev pub plain_rows : Problem → List (List (List ℕ))
plain_rows p = front_rows One p ++ (body_rows p ++ sort_rows p Overlook)

abbrev pub full_rows : Problem → List (List (List ℕ))
full_rows p = front_rows Two p ++ (sort_rows p Positions ++ (body_rows p ++ later_change_rows p))

-- the rows of the version that the canonical text has, but the last one
abbrev pub chosen_rows : Problem → List (List (List ℕ))
chosen_rows p = if is_plain p then plain_rows p else full_rows p
