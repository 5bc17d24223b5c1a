-- What has been read so far.
use Rattle.std.specs.Prelude.{ℕ, Bool, false, List, [], map, Option}
use Rattle.std.specs.Option.{option_map}
use Rattle.period_rows.specs.declared.part.CellPart.{CellPart}
use Rattle.period_rows.specs.declared.changes.GivenChange.{GivenChange}
use Rattle.scenario_text.specs.declared.draft.Stage.{Stage}
use Rattle.scenario_text.specs.declared.draft.Stage.TheVariants.{Version}
use Rattle.scenario_text.specs.declared.draft.TextVersion.{TextVersion}
use Rattle.scenario_text.specs.declared.draft.TextVersion.TheVariants.{One, Two}
use Rattle.scenario_text.specs.declared.draft.Draft.{Draft}

-- a row of a cell's drift, or of a position's look, that is in force in one period alone
pub record PeriodRow : Type 0 where
  pub period : ℕ
  pub own : ℕ
  pub row : List CellPart

-- `moves` has an element a position, `parts` and, in version 1, `overlook` one a cell, and, in version 2, `looks` one a position;
-- a row of moves or of parts that wasn't read yet is empty. The last two lists are in the order of their lines.
pub record State : Type 0 where
  pub stage : Stage
  pub version : TextVersion
  pub horizon : ℕ
  pub total : ℕ
  pub drift : ℕ
  pub look : ℕ
  pub names : List (List ℕ)
  pub positions : List (List ℕ)
  pub gridded : Bool
  pub start : ℕ
  pub first : List CellPart
  pub moves : List (List ℕ)
  pub parts : List (List CellPart)
  pub overlook : List (Option ℕ)
  pub looks : List (Option (List CellPart))
  pub drift_rows : List PeriodRow
  pub look_rows : List PeriodRow

-- one thing in texts of version 1, another in those of version 2
abbrev pub by_version : {X : Type 0} → TextVersion → X → X → X
by_version One x y = x
by_version Two x y = y

-- the names of the positions: in version 1 the positions are the cells
abbrev pub positions_in : State → List (List ℕ)
positions_in s = by_version s.version s.names s.positions

-- nothing was read
abbrev pub blank_state : State
blank_state = record {
  stage = Version;
  version = One;
  horizon = 0;
  total = 0;
  drift = 0;
  look = 0;
  names = [];
  positions = [];
  gridded = false;
  start = 0;
  first = [];
  moves = [];
  parts = [];
  overlook = [];
  looks = [];
  drift_rows = [];
  look_rows = [];
}

-- a row of one period
abbrev pub period_row_of : GivenChange → PeriodRow
period_row_of r = record { period = r.period; own = r.owner; row = r.row.items }

-- what a draft says
abbrev pub state_of : Draft → State
state_of d = record {
  stage = d.stage;
  version = d.version;
  horizon = d.horizon;
  total = d.total;
  drift = d.drift;
  look = d.look;
  names = map (λ name. name.items) d.names.keys;
  positions = map (λ name. name.items) d.positions.keys;
  gridded = d.gridded;
  start = d.start;
  first = d.first.items;
  moves = map (λ row. row.items) d.moves.items;
  parts = map (λ row. row.items) d.parts.items;
  overlook = d.overlook.items;
  looks = map (option_map (λ row. row.items)) d.looks.items;
  drift_rows = map period_row_of d.drift_rows.items;
  look_rows = map period_row_of d.look_rows.items;
}
