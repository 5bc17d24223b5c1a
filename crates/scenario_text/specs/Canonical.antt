-- The canonical text of a problem: each line its fields with one blank between and a line feed.
use Rattle.std.specs.Prelude.{ℕ, ◌==◌, ◌&&◌, ◌-◌, not, Bool, false, if◌then◌else◌, List, [], ◌∷◌, map, filter, length, Some}
use Rattle.std.specs.Str.{bytes_eq}
use Rattle.std.specs.Cmp.Lexicographic.{pointwise}
use Rattle.std.specs.List.{flat_map, list_all, range_with_len}
use Rattle.text_rows.specs.Rows.{text_of}
use Rattle.period_rows.specs.declared.part.CellPart.{CellPart}
use Rattle.period_rows.specs.Rows.{is_same_row}
use Rattle.drift_chain.specs.DriftRows.{row_of}
use Rattle.sweep_table.specs.LookParts.{look_row, factor_of}
use Rattle.search_model.specs.Problem.{Problem, first_of}
use Rattle.scenario_text.specs.declared.draft.Stage.TheVariants.{Ended}
use Rattle.scenario_text.specs.declared.draft.TextVersion.TheVariants.{One, Two}
use Rattle.scenario_text.specs.State.{State, PeriodRow}
use Rattle.scenario_text.specs.StateRows.{state_rows}
use Rattle.scenario_text.specs.Reading.{Front}

-- the cells with a positive first part, ascending
abbrev pub first_entries : Problem → List CellPart
first_entries p = flat_map (λ c. if first_of p c == 0 then [] else record { cell = c; part = first_of p c } ∷ []) (range_with_len 0 p.cells)

-- the cells that a look from position a in period t covers, ascending: those of which it doesn't miss all
abbrev pub covered : Problem → ℕ → ℕ → List CellPart
covered p t a = map (λ e. record { cell = e.cell; part = e.part }) (filter (λ e. not (e.part == p.sweep.denominator)) (look_row p.sweep t a))

-- the rows of period t that aren't those of period 1, by their owners
abbrev pub other_rows : (ℕ → ℕ → List CellPart) → ℕ → ℕ → List PeriodRow
other_rows row owners t = flat_map (λ c. if is_same_row (row t c) (row 1 c) then [] else record { period = t; own = c; row = row t c } ∷ []) (range_with_len 0 owners)

-- and of the periods 2 to the last one, by periods and owners
abbrev pub later_rows : (ℕ → ℕ → List CellPart) → ℕ → ℕ → List PeriodRow
later_rows row owners last = flat_map (other_rows row owners) (range_with_len 2 (last - 1))

-- the target drifts after each period but the last one
abbrev pub drift_changes : Problem → List PeriodRow
drift_changes p = later_rows (row_of p.drift) p.cells (p.horizon - 1)

-- and is looked for in each period
abbrev pub look_changes : Problem → List PeriodRow
look_changes p = later_rows (covered p) p.positions p.horizon

-- whether the rows of period t are those of period 1
abbrev pub is_as_first : (ℕ → ℕ → List CellPart) → ℕ → ℕ → Bool
is_as_first row owners t = list_all (λ c. is_same_row (row t c) (row 1 c)) (range_with_len 0 owners)

-- and whether those of the periods 2 to the last one are
abbrev pub is_steady : (ℕ → ℕ → List CellPart) → ℕ → ℕ → Bool
is_steady row owners last = list_all (is_as_first row owners) (range_with_len 2 (last - 1))

-- whether a look from position a in period 1 covers no cell but the one of its number
abbrev pub covers_itself : Problem → ℕ → Bool
covers_itself p a = list_all (λ e. e.cell == a) (covered p 1 a)

-- whether a text of version 1 can say the problem: the positions are the cells with the same names, nothing depends on the
-- period, and each look covers the cell of its position's number alone
unfoldable pub is_plain : Problem → Bool
is_plain p =
    pointwise bytes_eq p.position_names p.names
    && (is_steady (row_of p.drift) p.cells (p.horizon - 1) && (is_steady (covered p) p.positions p.horizon && list_all (covers_itself p) (range_with_len 0 p.positions)))

-- what the canonical text says, read to its end, where version 1 can say it
abbrev pub plain_state : Problem → State
plain_state p = record {
  stage = Ended;
  version = One;
  horizon = p.horizon;
  total = p.total;
  drift = p.drift.denominator;
  look = p.sweep.denominator;
  names = p.names;
  positions = [];
  gridded = false;
  start = p.start;
  first = first_entries p;
  moves = p.moves;
  parts = map (row_of p.drift 1) (range_with_len 0 p.cells);
  overlook = map (λ c. Some (factor_of p.sweep 1 c c)) (range_with_len 0 p.positions);
  looks = [];
  drift_rows = [];
  look_rows = [];
}

-- and where it can't: the rows of period 1, and those of later periods that differ from them
abbrev pub full_state : Problem → State
full_state p = record (plain_state p) {
  version = Two;
  positions = p.position_names;
  overlook = [];
  looks = map (λ a. Some (covered p 1 a)) (range_with_len 0 p.positions);
  drift_rows = drift_changes p;
  look_rows = look_changes p;
}

unfoldable pub state_of_problem : Problem → State
state_of_problem p = if is_plain p then plain_state p else full_state p

-- the lines that say it
unfoldable pub canonical_text : Problem → List ℕ
canonical_text p = text_of (state_rows (state_of_problem p))

-- its lines up to the last one
abbrev pub front_of_problem : Problem → Front
front_of_problem p = record { state = state_of_problem p; line = length (state_rows (state_of_problem p)) }
