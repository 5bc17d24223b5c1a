-- What the lines that were read have settled.
use Rattle.std.specs.Prelude.{ℕ, ◌≡◌, ◌<◌, ◌≤◌, ◌==◌, ◌&&◌, ◌-◌, ◌⊎◌, true, false, List, [], length, count_by, sum_by, All, Option, None, Some}
use Rattle.exact_parts.specs.Width.{Fits}
use Rattle.period_rows.specs.declared.part.CellPart.{CellPart}
use Rattle.search_grid.specs.Moves.{moves_from}
use Rattle.search_model.specs.Names.{IsName, IsRepeated}
use Rattle.scenario_text.specs.declared.draft.Stage.{Stage}
use Rattle.scenario_text.specs.declared.draft.Stage.TheVariants.{Version, Horizon, Parts, Cells, Positions, Start, First, Rows, Ended}
use Rattle.scenario_text.specs.declared.draft.TextVersion.{TextVersion}
use Rattle.scenario_text.specs.declared.draft.TextVersion.TheVariants.{One}
use Rattle.scenario_text.specs.KindTable.{lacks_row}
use Rattle.scenario_text.specs.State.{State, PeriodRow, by_version, positions_in}

-- the place of a stage in the order of the lines
abbrev pub place_of : Stage → ℕ
place_of Version = 0
place_of Horizon = 1
place_of Parts = 2
place_of Cells = 3
place_of Positions = 3
place_of Start = 3
place_of First = 4
place_of Rows = 5
place_of Ended = 6

-- behind their lines the horizon and the denominators are within their limits
pub record IsSettled (stage : Stage) (t a d g : ℕ) : Type 0 where
  pub horizon : 2 ≤ place_of stage → (1 ≤ t) × (t ≤ 32)
  pub total : 3 ≤ place_of stage → (1 ≤ a) × (a ≤ 1000000)
  pub drift : 3 ≤ place_of stage → (1 ≤ d) × (d ≤ 1000000)
  pub look : 3 ≤ place_of stage → (1 ≤ g) × (g ≤ 1000000)

-- entries for different cells, out of so many, with positive parts that sum to the denominator
pub record AreEntries (cells denominator : ℕ) (entries : List CellPart) : Type 0 where
  pub within : All (λ e. e.cell < cells) entries
  pub positive : All (λ e. 1 ≤ e.part) entries
  pub once : (d : ℕ) → count_by (λ e. e.cell == d) entries ≤ 1
  pub total : sum_by (λ e. e.part) entries ≡ denominator

-- entries for different cells, out of so many, with parts up to the denominator
pub record AreLooks (cells denominator : ℕ) (entries : List CellPart) : Type 0 where
  pub within : All (λ e. e.cell < cells) entries
  pub parts : All (λ e. e.part ≤ denominator) entries
  pub once : (d : ℕ) → count_by (λ e. e.cell == d) entries ≤ 1

-- one to 64 different cells, out of so many
pub record AreMoves (cells : ℕ) (row : List ℕ) : Type 0 where
  pub some : 1 ≤ length row
  pub few : length row ≤ 64
  pub within : All (λ d. d < cells) row
  pub once : (d : ℕ) → count_by (λ m. m == d) row ≤ 1

-- an overlook part that is within the denominator, if there is one
abbrev pub IsPart : ℕ → Option ℕ → Type 0
IsPart look None = Unit {0}
IsPart look (Some part) = part ≤ look

-- a row of looks, if there is one
abbrev pub IsLook : ℕ → ℕ → Option (List CellPart) → Type 0
IsLook cells look None = Unit {0}
IsLook cells look (Some row) = AreLooks cells look row

-- the positions that have names of their own, in version 2, each with its row of looks
pub record ArePositions (version : TextVersion) (stage : Stage) (cells look : ℕ) (positions : List (List ℕ)) (looks : List (Option (List CellPart))) : Type 0 where
  pub few : length positions ≤ 200
  pub names : All IsName positions
  pub differ : (q : ℕ) → ¬ IsRepeated positions q
  pub looks_length : length looks ≡ length positions
  pub covered : All (IsLook cells look) looks
  pub empty : place_of stage ≤ 2 → length positions ≡ 0
  pub cells_alone : version ≡ One → length positions ≡ 0

-- rows of one period each, for periods up to the last and for owners out of so many, no two for the same
pub record ArePeriodRows (last owners : ℕ) (IsRow : List CellPart → Type 0) (rows : List PeriodRow) : Type 0 where
  pub periods : All (λ r. (1 ≤ r.period) × (r.period ≤ last)) rows
  pub within : All (λ r. r.own < owners) rows
  pub right : All (λ r. IsRow r.row) rows
  pub once : (t c : ℕ) → count_by (λ r. r.period == t && r.own == c) rows ≤ 1

-- the rows of one period: they stand behind the first parts, in version 2
pub record AreChanges (version : TextVersion) (stage : Stage) (horizon cells positions drift look : ℕ) (drift_rows look_rows : List PeriodRow) : Type 0 where
  pub early : place_of stage ≤ 4 → (drift_rows ≡ []) × (look_rows ≡ [])
  pub every_period : version ≡ One → (drift_rows ≡ []) × (look_rows ≡ [])
  pub drifts : ArePeriodRows (horizon - 1) cells (AreEntries cells drift) drift_rows
  pub looks : ArePeriodRows horizon positions (AreLooks cells look) look_rows

-- what holds of all that lines give
pub record IsSound (s : State) : Type 0 where
  pub settled : IsSettled s.stage s.horizon s.total s.drift s.look
  pub few : length s.names ≤ 200
  pub names : All IsName s.names
  pub differ : (c : ℕ) → ¬ IsRepeated s.names c
  pub positions : ArePositions s.version s.stage (length s.names) s.look s.positions s.looks
  pub moves_length : length s.moves ≡ length (positions_in s)
  pub parts_length : length s.parts ≡ length s.names
  pub overlook_length : length s.overlook ≡ length (by_version s.version s.names [])
  pub start : 4 ≤ place_of s.stage → s.start < length (positions_in s)
  pub first : 5 ≤ place_of s.stage → AreEntries (length s.names) s.total s.first
  pub moves : All (λ row. (length row ≡ 0) ⊎ AreMoves (length (positions_in s)) row) s.moves
  pub empty : place_of s.stage ≤ 2 → length s.names ≡ 0
  pub cells : s.gridded ≡ true → (s.version ≡ One) × ((s.stage ≡ Start) ⊎ (4 ≤ place_of s.stage))
  pub own : s.gridded ≡ true → (c : ℕ) → c < length s.moves → count_by (λ m. m == c) (moves_from s.moves c) ≡ 1
  pub parts : All (λ row. (length row ≡ 0) ⊎ AreEntries (length s.names) s.drift row) s.parts
  pub overlook : All (IsPart s.look) s.overlook
  pub changes : AreChanges s.version s.stage s.horizon (length s.names) (length (positions_in s)) s.drift s.look s.drift_rows s.look_rows
  pub whole : s.stage ≡ Ended → lacks_row s ≡ false
  pub fits : s.stage ≡ Ended → Fits s.total s.drift s.look s.horizon
