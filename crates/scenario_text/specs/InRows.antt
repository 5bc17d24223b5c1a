-- What the lines `grid`, `spread` and `rate` stand for: lines with the rows of each cell.
use Rattle.std.specs.Prelude.{ℕ, ◌≡◌, ◌*◌, ◌≤◌, true, false, List, [], ◌∷◌, ◌++◌, map, length, codes, Ok}
use Rattle.std.specs.List.{join_with_byte, range_with_len}
use Rattle.std.specs.Fmt.{decimal}
use Rattle.search_grid.specs.Moves.{moves_from}
use Rattle.search_grid.specs.Sides.{moves_beside}
use Rattle.scenario_text.specs.declared.draft.Stage.TheVariants as due
use Rattle.search_model.specs.Grids.{grid_name, grid_names, spread_row}
use Rattle.scenario_text.specs.State.{State, blank_state}
use Rattle.text_rows.specs.LineMachine.{AreTaken}
use Rattle.scenario_text.specs.Reading.{line_at, scenario_lines}
use Rattle.scenario_text.specs.RowFields.{cell_row, moves_of, drift_of, overlook_of}

-- fields with one blank between
abbrev pub line_text : List (List ℕ) → List ℕ
line_text fields = join_with_byte 32 fields

-- a line for each of so many cells, in order of number
abbrev pub for_each : ℕ → (ℕ → List (List ℕ)) → List (List ℕ)
for_each cells row = map (λ c. line_text (row c)) (range_with_len 0 cells)

-- some right lines say this
abbrev pub IsReached : State → Type 0
IsReached s = (lines : List (List ℕ)) × AreTaken scenario_lines blank_state lines s

-- `grid R C` says what a `cell` line for each of its cells says and, behind the lines of the start and of the first parts, a
-- `moves` line for each, with the cell itself and those at its sides; but `spread` is for grids alone
abbrev pub GridInRows : Type 0
GridInRows = (s t : State) (rows cols : ℕ) (start first : List ℕ) → IsReached s → s.stage ≡ due.Cells → s.names ≡ [] → rows ≤ 200 → cols ≤ 200 →
    AreTaken scenario_lines s (line_text (codes "grid" ∷ decimal rows ∷ decimal cols ∷ []) ∷ start ∷ first ∷ []) t → t.stage ≡ due.Rows →
    AreTaken scenario_lines s (for_each (rows * cols) (λ c. cell_row (grid_name cols c)) ++ start ∷ first ∷ for_each (rows * cols) (λ c. moves_of (grid_names rows cols) c (moves_beside rows cols c)))
    (record t { gridded = false })

-- behind the moves of its cells a line that is right without the grid's mark is right with it, too, and adds the same
abbrev pub GridReadsOn : Type 0
GridReadsOn = (s t : State) (line : List ℕ) → s.stage ≡ due.Rows → s.gridded ≡ false → line_at s line ≡ Ok t → line_at (record s { gridded = true }) line ≡ Ok (record t { gridded = true })

-- `rate PART` says what an `overlook` line for each cell says, and other rows may follow
abbrev pub RateInRows : Type 0
RateInRows = (s t : State) (part : ℕ) → IsReached s → s.stage ≡ due.Rows → part ≤ 1000000 →
    line_at s (line_text (codes "rate" ∷ decimal part ∷ [])) ≡ Ok t →
    AreTaken scenario_lines s (for_each (length s.names) (λ c. overlook_of s.names c part)) t × (t.stage ≡ due.Rows)

-- `spread PART` says what a `drift` line for each cell says: the part to each of its moves but the stay, and the rest to itself;
-- and other rows may follow
abbrev pub SpreadInRows : Type 0
SpreadInRows = (s t : State) (part : ℕ) → IsReached s → s.stage ≡ due.Rows → part ≤ 1000000 →
    line_at s (line_text (codes "spread" ∷ decimal part ∷ [])) ≡ Ok t →
    AreTaken scenario_lines s (for_each (length s.names) (λ c. drift_of s.names c (spread_row s.drift part c (moves_from s.moves c)))) t × (t.stage ≡ due.Rows)
