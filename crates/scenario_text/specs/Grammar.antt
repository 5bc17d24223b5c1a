-- What a line without a fault adds to what was read.
use Rattle.std.specs.Prelude.{ℕ, ◌*◌, ◌-◌, Bool, true, if◌then◌else◌, List, [], ◌∷◌, ◌++◌, map, length, set, replicate, Option, Some, None, unwrap_or, Result, Ok, Err, codes}
use Rattle.search_grid.specs.Sides.{side_moves}
use Rattle.search_model.specs.Grids.{grid_names, spread_rows}
use Rattle.scenario_text.specs.declared.draft.Stage.TheVariants as due
use Rattle.scenario_text.specs.declared.kind.TextKind.{TextKind}
use Rattle.text_rows.specs.Fields.{behind_first, is_word}
use Rattle.scenario_text.specs.Fields.{cell_named, entries_in}
use Rattle.scenario_text.specs.State.{State, by_version, positions_in}
use Rattle.scenario_text.specs.declared.draft.TextVersion.TheVariants.{One, Two}
use Rattle.scenario_text.specs.declared.line.Line.{Line}
use Rattle.scenario_text.specs.declared.line.Line.TheVariants.{Scenario, Horizon, Parts, Cell, Position, Grid, Start, First, Moves, Drift, DriftIn, Overlook, Spread, Rate, Look, LookIn, End}
use Rattle.scenario_text.specs.KindTable.{value, part, tests, line_of}

-- the number of the cell that a name names
abbrev pub cell_of : State → List ℕ → ℕ
cell_of s name = unwrap_or (cell_named s.names name) 0

-- and of the position
abbrev pub position_of : State → List ℕ → ℕ
position_of s name = unwrap_or (cell_named (positions_in s) name) 0

-- a cell more, that has no rows yet: in version 1 it is a position, too
abbrev pub with_name : State → List ℕ → State
with_name s name =
    record s {
      names = s.names ++ name ∷ [];
      moves = by_version s.version (s.moves ++ [] ∷ []) s.moves;
      parts = s.parts ++ [] ∷ [];
      overlook = by_version s.version (s.overlook ++ None ∷ []) s.overlook;
    }

-- a position more, that has no rows yet
abbrev pub with_position : State → List ℕ → State
with_position s name = record s { stage = due.Positions; positions = s.positions ++ name ∷ []; moves = s.moves ++ [] ∷ []; looks = s.looks ++ None ∷ [] }

-- all cells of a grid, with their moves
abbrev pub with_cells : State → ℕ → ℕ → State
with_cells s rows cols =
    record s {
      stage = due.Start;
      names = grid_names rows cols;
      gridded = true;
      moves = side_moves rows cols;
      parts = replicate (rows * cols) [];
      overlook = replicate (rows * cols) None;
    }

-- what each line adds, by the fields behind its keyword
abbrev pub adds : Line → State → List (List ℕ) → State
adds Scenario s (version ∷ []) = record s { stage = due.Horizon; version = if is_word version (codes "1") then One else Two }
adds Horizon s (t ∷ []) = record s { stage = due.Parts; horizon = value 32 t }
adds Parts s (a ∷ d ∷ g ∷ []) = record s { stage = due.Cells; total = part a; drift = part d; look = part g }
adds Cell s (name ∷ []) = with_name s name
adds Position s (name ∷ []) = with_position s name
adds Grid s (rows ∷ cols ∷ []) = with_cells s (value 200 rows) (value 200 cols)
adds Start s (name ∷ []) = record s { stage = due.First; start = position_of s name }
adds First s fields = record s { stage = due.Rows; first = entries_in s.names fields }
adds Moves s (name ∷ moves) = record s { moves = set s.moves (position_of s name) (map (position_of s) moves) }
adds Drift s (name ∷ fields) = record s { parts = set s.parts (cell_of s name) (entries_in s.names fields) }
adds DriftIn s (t ∷ name ∷ fields) = record s { drift_rows = s.drift_rows ++ record { period = value (s.horizon - 1) t; own = cell_of s name; row = entries_in s.names fields } ∷ [] }
adds Overlook s (name ∷ n ∷ []) = record s { overlook = set s.overlook (cell_of s name) (Some (part n)) }
adds Spread s (n ∷ []) = record s { parts = spread_rows s.drift (part n) s.moves }
adds Rate s (n ∷ []) = record s { overlook = replicate (length s.names) (Some (part n)) }
adds Look s (name ∷ fields) = record s { looks = set s.looks (position_of s name) (Some (entries_in s.names fields)) }
adds LookIn s (t ∷ name ∷ fields) = record s { look_rows = s.look_rows ++ record { period = value s.horizon t; own = position_of s name; row = entries_in s.names fields } ∷ [] }
adds End s fields = record s { stage = due.Ended }
adds _ s fields = s

-- where no line is due, nothing
abbrev pub added : Option Line → State → List (List ℕ) → State
added None s fields = s
added (Some line) s fields = adds line s fields

-- the first kind whose test holds, or else what was added
abbrev pub unless_any : List (Bool × TextKind) → State → Result State TextKind
unless_any [] t = Ok t
unless_any (test ∷ tests) t = if test.0 then Err test.1 else unless_any tests t

-- the row of a line: its first fault, or else what it adds
abbrev pub row_at : Line → State → List (List ℕ) → Result State TextKind
row_at line s fields = unless_any (tests s (Some line) fields) (adds line s fields)

-- the row of the line that these fields begin, or a bad line where they begin none
abbrev pub fields_at : State → List (List ℕ) → Result State TextKind
fields_at s fields = unless_any (tests s (line_of s fields) (behind_first fields)) (added (line_of s fields) s (behind_first fields))
