-- The lines that say what was read, in the order of the canonical text, each as its fields.
use Rattle.std.specs.Prelude.{ℕ, List, [], ◌∷◌, ◌++◌, map, length, unwrap_or, slice_index_or, None, codes}
use Rattle.std.specs.List.{range_with_len}
use Rattle.std.specs.Fmt.{decimal}
use Rattle.period_rows.specs.declared.part.CellPart.{CellPart}
use Rattle.search_grid.specs.Moves.{moves_from}
use Rattle.search_model.specs.Names.{name_in}
use Rattle.scenario_text.specs.declared.draft.TextVersion.{TextVersion}
use Rattle.scenario_text.specs.declared.draft.TextVersion.TheVariants.{One, Two}
use Rattle.scenario_text.specs.State.{State, PeriodRow, positions_in}
use Rattle.scenario_text.specs.RowFields.{entry_fields, cell_row, first_row, moves_of, drift_of, overlook_of}

-- `scenario 1` or `scenario 2`
abbrev pub version_row : TextVersion → List (List ℕ)
version_row One = codes "scenario" ∷ codes "1" ∷ []
version_row Two = codes "scenario" ∷ codes "2" ∷ []

-- `position NAME`
abbrev pub position_row : List ℕ → List (List ℕ)
position_row name = codes "position" ∷ name ∷ []

-- `driftin T NAME NAME PART ..`
abbrev pub drift_in_of : List (List ℕ) → PeriodRow → List (List ℕ)
drift_in_of names r = codes "driftin" ∷ decimal r.period ∷ name_in names r.own ∷ entry_fields names r.row

-- `look NAME NAME PART ..`
abbrev pub look_of : List (List ℕ) → List (List ℕ) → ℕ → List CellPart → List (List ℕ)
look_of names positions q row = codes "look" ∷ name_in positions q ∷ entry_fields names row

-- `lookin T NAME NAME PART ..`
abbrev pub look_in_of : List (List ℕ) → List (List ℕ) → PeriodRow → List (List ℕ)
look_in_of names positions r = codes "lookin" ∷ decimal r.period ∷ name_in positions r.own ∷ entry_fields names r.row

-- the row of each position and cell that was read, and the end; a state has no row of a sort that only texts of the other version have
abbrev pub look_in_rows : State → List (List (List ℕ))
look_in_rows s = map (look_in_of s.names (positions_in s)) s.look_rows ++ ((codes "end" ∷ []) ∷ [])

abbrev pub look_rows : State → List (List (List ℕ))
look_rows s = map (λ q. look_of s.names (positions_in s) q (unwrap_or (slice_index_or s.looks q None) [])) (range_with_len 0 (length s.looks)) ++ look_in_rows s

abbrev pub overlook_rows : State → List (List (List ℕ))
overlook_rows s = map (λ c. overlook_of s.names c (unwrap_or (slice_index_or s.overlook c None) 0)) (range_with_len 0 (length s.overlook)) ++ look_rows s

abbrev pub drift_in_rows : State → List (List (List ℕ))
drift_in_rows s = map (drift_in_of s.names) s.drift_rows ++ overlook_rows s

abbrev pub drift_rows : State → List (List (List ℕ))
drift_rows s = map (λ c. drift_of s.names c (slice_index_or s.parts c [])) (range_with_len 0 (length s.parts)) ++ drift_in_rows s

abbrev pub moves_rows : State → List (List (List ℕ))
moves_rows s = map (λ q. moves_of (positions_in s) q (moves_from s.moves q)) (range_with_len 0 (length s.moves)) ++ drift_rows s

-- the start and the first parts
abbrev pub start_rows : State → List (List (List ℕ))
start_rows s =
    (codes "start" ∷ name_in (positions_in s) s.start ∷ [])
    ∷ first_row s.names s.first
    ∷ moves_rows s

-- the cells and the positions that have names of their own
abbrev pub name_rows : State → List (List (List ℕ))
name_rows s = map cell_row s.names ++ (map position_row s.positions ++ start_rows s)

-- all lines
abbrev pub state_rows : State → List (List (List ℕ))
state_rows s =
    version_row s.version
    ∷ (codes "horizon" ∷ decimal s.horizon ∷ [])
    ∷ (codes "parts" ∷ decimal s.total ∷ decimal s.drift ∷ decimal s.look ∷ [])
    ∷ name_rows s
