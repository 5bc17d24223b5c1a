-- The lines of the format, and the faults of each as a table: the first kind whose test holds decides.
use Rattle.std.specs.Prelude.{ℕ, ◌-◌, ◌*◌, Bool, true, false, not, ◌&&◌, ◌||◌, ◌==◌, nat_lt, nat_le, if◌then◌else◌, List, [], ◌∷◌, ◌++◌, map, length, Option, Some, None, is_none, is_some, sum_by, codes, ◌+◌, ◌^◌, slice_index_or}
use Rattle.std.specs.List.{list_all, list_any}
use Rattle.search_model.specs.Names.{is_name_byte}
use Rattle.scenario_text.specs.declared.draft.Stage.{Stage}
use Rattle.scenario_text.specs.declared.draft.Stage.TheVariants as due
use Rattle.scenario_text.specs.declared.line.Line.{Line}
use Rattle.scenario_text.specs.declared.line.Line.TheVariants.{Scenario, Horizon, Parts, Cell, Position, Grid, Start, First, Moves, Drift, DriftIn, Overlook, Spread, Rate, Look, LookIn, End}
use Rattle.scenario_text.specs.declared.draft.TextVersion.{TextVersion}
use Rattle.scenario_text.specs.declared.kind.TextKind.{TextKind}
use Rattle.scenario_text.specs.declared.kind.TextKind.TheVariants.{NotText, BadLine, BadNumber, OverLimit, UnknownName, DoubleName, MissingRow, DoubleRow, WrongSum, PartOver, NoMove, TooWide}
use Rattle.text_rows.specs.Fields.{fields_of, is_text_byte, is_word, behind_first, first_alone}
use Rattle.exact_parts.specs.Decimal.{number_at}
use Rattle.scenario_text.specs.Fields.{is_bad, is_over, number_in, cell_named, are_pairs, are_even}
use Rattle.scenario_text.specs.State.{State, PeriodRow, by_version, positions_in}
use Rattle.search_grid.specs.Moves.{moves_from}

-- The lines.

-- a line with this keyword, or one of the others
abbrev pub with_keyword : List ℕ → List ℕ → Line → Option Line → Option Line
with_keyword word keyword line others = if is_word word keyword then Some line else others

-- what goes before the rows in version 1: a cell, or the grid before any cell, or the start behind a cell
abbrev pub head_due : Bool → List ℕ → Option Line
head_due named word =
    with_keyword word (codes "cell") Cell
    (if named then with_keyword word (codes "start") Start None else with_keyword word (codes "grid") Grid None)

-- in version 2: a cell, or a position behind a cell
abbrev pub cell_due : Bool → List ℕ → Option Line
cell_due named word =
    with_keyword word (codes "cell") Cell
    (if named then with_keyword word (codes "position") Position None else None)

-- and behind a position: another one, or the start
abbrev pub position_due : List ℕ → Option Line
position_due word =
    with_keyword word (codes "position") Position
    (with_keyword word (codes "start") Start None)

-- the rows and the end in version 1
abbrev pub row_due : List ℕ → Option Line
row_due word =
    with_keyword word (codes "moves") Moves
    (with_keyword word (codes "drift") Drift
    (with_keyword word (codes "overlook") Overlook
    (with_keyword word (codes "spread") Spread
    (with_keyword word (codes "rate") Rate
    (with_keyword word (codes "end") End None)))))

-- and in version 2
abbrev pub period_row_due : List ℕ → Option Line
period_row_due word =
    with_keyword word (codes "moves") Moves
    (with_keyword word (codes "drift") Drift
    (with_keyword word (codes "driftin") DriftIn
    (with_keyword word (codes "look") Look
    (with_keyword word (codes "lookin") LookIn
    (with_keyword word (codes "end") End None)))))

-- the line that this keyword begins where this is due, and none where the keyword is unknown, out of its place or of the other version
abbrev pub line_due : TextVersion → Stage → Bool → List ℕ → Option Line
line_due version due.Version named word = with_keyword word (codes "scenario") Scenario None
line_due version due.Horizon named word = with_keyword word (codes "horizon") Horizon None
line_due version due.Parts named word = with_keyword word (codes "parts") Parts None
line_due version due.Cells named word = by_version version (head_due named word) (cell_due named word)
line_due version due.Positions named word = by_version version None (position_due word)
line_due version due.Start named word = with_keyword word (codes "start") Start None
line_due version due.First named word = with_keyword word (codes "first") First None
line_due version due.Rows named word = by_version version (row_due word) (period_row_due word)
line_due version due.Ended named word = None

-- The fields behind the keyword.

-- the names of `NAME PART NAME PART ..`
unfoldable pub pair_names : List (List ℕ) → List (List ℕ)
pair_names [] = []
pair_names (name ∷ []) = []
pair_names (name ∷ part ∷ fields) = name ∷ pair_names fields

-- and its parts
unfoldable pub pair_parts : List (List ℕ) → List (List ℕ)
pair_parts [] = []
pair_parts (name ∷ []) = []
pair_parts (name ∷ part ∷ fields) = part ∷ pair_parts fields

-- the fields behind the first two
abbrev pub behind_two : List (List ℕ) → List (List ℕ)
behind_two fields = behind_first (behind_first fields)

-- the second alone
abbrev pub second_alone : List (List ℕ) → List (List ℕ)
second_alone fields = first_alone (behind_first fields)

-- how many there are
abbrev pub has_none : List (List ℕ) → Bool
has_none [] = true
has_none _ = false

abbrev pub has_one : List (List ℕ) → Bool
has_one (one ∷ []) = true
has_one _ = false

abbrev pub has_two : List (List ℕ) → Bool
has_two (one ∷ two ∷ []) = true
has_two _ = false

abbrev pub has_three : List (List ℕ) → Bool
has_three (one ∷ two ∷ three ∷ []) = true
has_three _ = false

-- as many as such a line has
abbrev pub has_count : Line → List (List ℕ) → Bool
has_count Scenario fields = has_one fields
has_count Horizon fields = has_one fields
has_count Parts fields = has_three fields
has_count Cell fields = has_one fields
has_count Position fields = has_one fields
has_count Grid fields = has_two fields
has_count Start fields = has_one fields
has_count First fields = are_pairs fields
has_count Moves fields = not (has_none fields)
has_count Drift fields = not (has_none fields) && are_pairs (behind_first fields)
has_count DriftIn fields = are_pairs (behind_two fields)
has_count Overlook fields = has_two fields
has_count Spread fields = has_one fields
has_count Rate fields = has_one fields
has_count Look fields = not (has_none fields) && are_even (behind_first fields)
has_count LookIn fields = not (has_none (behind_first fields)) && are_even (behind_two fields)
has_count End fields = has_none fields

-- a field in the place of a number, with the least and the most that stand there
pub record NumberField : Type 0 where
  pub field : List ℕ
  pub least : ℕ
  pub most : ℕ

abbrev pub within : ℕ → ℕ → List (List ℕ) → List NumberField
within least most fields = map (λ f. record { field = f; least = least; most = most }) fields

-- those in the places of numbers: of a period in which the target drifts there is one less than of those in which is looked
abbrev pub numbers : State → Line → List (List ℕ) → List NumberField
numbers s Horizon fields = within 1 32 fields
numbers s Parts fields = within 1 1000000 fields
numbers s Grid fields = within 1 200 fields
numbers s First fields = within 1 1000000 (pair_parts fields)
numbers s Drift fields = within 1 1000000 (pair_parts (behind_first fields))
numbers s DriftIn fields = within 1 (s.horizon - 1) (first_alone fields) ++ within 1 1000000 (pair_parts (behind_two fields))
numbers s Overlook fields = within 0 1000000 (behind_first fields)
numbers s Spread fields = within 0 1000000 fields
numbers s Rate fields = within 0 1000000 fields
numbers s Look fields = within 0 1000000 (pair_parts (behind_first fields))
numbers s LookIn fields = within 1 s.horizon (first_alone fields) ++ within 0 1000000 (pair_parts (behind_two fields))
numbers s _ fields = []

-- the number that a field says, where none is above the most
abbrev pub value : ℕ → List ℕ → ℕ
value most field = number_in (number_at most field)

-- the part that a field says
abbrev pub part : List ℕ → ℕ
part field = value 1000000 field

-- of the first of these fields
abbrev pub first_part : List (List ℕ) → ℕ
first_part [] = 0
first_part (field ∷ fields) = part field

-- those in the places of names of positions
abbrev pub position_names : Line → List (List ℕ) → List (List ℕ)
position_names Start fields = fields
position_names Moves fields = fields
position_names Look fields = first_alone fields
position_names LookIn fields = second_alone fields
position_names _ fields = []

-- those in the places of names of cells
abbrev pub cell_names : Line → List (List ℕ) → List (List ℕ)
cell_names First fields = pair_names fields
cell_names Drift fields = first_alone fields ++ pair_names (behind_first fields)
cell_names DriftIn fields = second_alone fields ++ pair_names (behind_two fields)
cell_names Overlook fields = first_alone fields
cell_names Look fields = pair_names (behind_first fields)
cell_names LookIn fields = pair_names (behind_two fields)
cell_names _ fields = []

-- a name stands twice
unfoldable pub stands_twice : List (List ℕ) → Bool
stands_twice [] = false
stands_twice (name ∷ others) = list_any (λ other. is_word other name) others || stands_twice others

-- the test holds of a number that was found
abbrev pub holds_of : Option ℕ → (ℕ → Bool) → Bool
holds_of None test = false
holds_of (Some c) test = test c

-- the test holds of the cell, or the position, that the first of these fields names
abbrev pub own_row : List (List ℕ) → List (List ℕ) → (ℕ → Bool) → Bool
own_row names [] test = false
own_row names (name ∷ fields) test = holds_of (cell_named names name) test

-- the period that the first field says
abbrev pub first_period : ℕ → List (List ℕ) → ℕ
first_period most [] = 0
first_period most (field ∷ fields) = value most field

-- The tests.

-- a cell, or a position, has a row of that sort
abbrev pub has_moves : State → ℕ → Bool
has_moves s c = nat_lt 0 (length (moves_from s.moves c))

abbrev pub has_parts : State → ℕ → Bool
has_parts s c = nat_lt 0 (length (slice_index_or s.parts c []))

abbrev pub has_overlook : State → ℕ → Bool
has_overlook s c = is_some (slice_index_or s.overlook c None)

abbrev pub has_look : State → ℕ → Bool
has_look s q = is_some (slice_index_or s.looks q None)

-- a row of that cell, or position, is in force in that period alone
abbrev pub has_period_row : List PeriodRow → ℕ → ℕ → Bool
has_period_row rows period own = list_any (λ r. r.period == period && r.own == own) rows

-- some cell or position lacks a row
abbrev pub lacks_row : State → Bool
lacks_row s =
    list_any (λ row. length row == 0) s.moves
    || (list_any (λ row. length row == 0) s.parts || (list_any (λ o. is_none o) s.overlook || list_any (λ o. is_none o) s.looks))

-- every number of the search stays below 2 ^ 127
abbrev pub is_narrow : State → Bool
is_narrow s = nat_lt ((s.horizon + 10) * s.total * s.drift ^ (s.horizon - 1) * s.look ^ (s.horizon + 1)) (2 ^ 127)

-- the version is neither `1` nor `2`, a cell's name holds a byte that names don't have, or `spread` stands without `grid`
abbrev pub is_ill : State → Line → List (List ℕ) → Bool
is_ill s Scenario fields = not (list_all (λ f. is_word f (codes "1") || is_word f (codes "2")) fields)
is_ill s Cell fields = not (list_all (list_all is_name_byte) fields)
is_ill s Position fields = not (list_all (list_all is_name_byte) fields)
is_ill s Spread fields = not s.gridded
is_ill s _ fields = false

-- or the number of fields is wrong
abbrev pub is_bad_line : State → Line → List (List ℕ) → Bool
is_bad_line s line fields = not (has_count line fields) || is_ill s line fields

-- a field in a number's place is no plain decimal, or below the least
abbrev pub is_bad_number : State → Line → List (List ℕ) → Bool
is_bad_number s line fields = list_any (λ n. is_bad n.least (number_at n.most n.field)) (numbers s line fields)

-- more than 200 cells, by a grid or by another cell, or positions; a name of more than 24 bytes; more than 64 moves
abbrev pub is_too_much : State → Line → List (List ℕ) → Bool
is_too_much s Cell fields = list_any (λ f. nat_lt 24 (length f)) fields || nat_le 200 (length s.names)
is_too_much s Position fields = list_any (λ f. nat_lt 24 (length f)) fields || nat_le 200 (length s.positions)
is_too_much s Grid (rows ∷ cols ∷ []) = nat_lt 200 (value 200 rows * value 200 cols)
is_too_much s Moves fields = nat_lt 64 (length (behind_first fields))
is_too_much s _ fields = false

-- or a number above its limit
abbrev pub is_over_limit : State → Line → List (List ℕ) → Bool
is_over_limit s line fields = list_any (λ n. is_over (number_at n.most n.field)) (numbers s line fields) || is_too_much s line fields

-- a name in the place of a position isn't a position's, or one in the place of a cell isn't a cell's
abbrev pub has_unknown : State → Line → List (List ℕ) → Bool
has_unknown s line fields = list_any (λ f. is_none (cell_named (positions_in s) f)) (position_names line fields) || list_any (λ f. is_none (cell_named s.names f)) (cell_names line fields)

-- a `cell` line repeats a cell's name, or a `position` line a position's; or one stands twice in a line where it may stand once
abbrev pub has_double_name : State → Line → List (List ℕ) → Bool
has_double_name s Cell fields = list_any (λ f. is_some (cell_named s.names f)) fields
has_double_name s Position fields = list_any (λ f. is_some (cell_named s.positions f)) fields
has_double_name s First fields = stands_twice (pair_names fields)
has_double_name s Moves fields = stands_twice (behind_first fields)
has_double_name s Drift fields = stands_twice (pair_names (behind_first fields))
has_double_name s DriftIn fields = stands_twice (pair_names (behind_two fields))
has_double_name s Look fields = stands_twice (pair_names (behind_first fields))
has_double_name s LookIn fields = stands_twice (pair_names (behind_two fields))
has_double_name s _ fields = false

-- at the end a cell or a position lacks a row
abbrev pub has_missing_row : State → Line → Bool
has_missing_row s End = lacks_row s
has_missing_row s _ = false

-- the cell or the position of a row has one of that sort, of that period if it has a period; or a cell has one where the line gives one to all
abbrev pub has_double_row : State → Line → List (List ℕ) → Bool
has_double_row s Moves fields = own_row (positions_in s) fields (has_moves s)
has_double_row s Drift fields = own_row s.names fields (has_parts s)
has_double_row s DriftIn fields = own_row s.names (behind_first fields) (has_period_row s.drift_rows (first_period (s.horizon - 1) fields))
has_double_row s Overlook fields = own_row s.names fields (has_overlook s)
has_double_row s Spread fields = list_any (λ row. nat_lt 0 (length row)) s.parts
has_double_row s Rate fields = list_any (λ o. is_some o) s.overlook
has_double_row s Look fields = own_row (positions_in s) fields (has_look s)
has_double_row s LookIn fields = own_row (positions_in s) (behind_first fields) (has_period_row s.look_rows (first_period s.horizon fields))
has_double_row s _ fields = false

-- the parts don't sum to what they are parts of, or some cell's side neighbours, which are its moves without the stay, take more
abbrev pub has_wrong_sum : State → Line → List (List ℕ) → Bool
has_wrong_sum s First fields = not (sum_by part (pair_parts fields) == s.total)
has_wrong_sum s Drift fields = not (sum_by part (pair_parts (behind_first fields)) == s.drift)
has_wrong_sum s DriftIn fields = not (sum_by part (pair_parts (behind_two fields)) == s.drift)
has_wrong_sum s Spread fields = list_any (λ row. nat_lt s.drift (first_part fields * (length row - 1))) s.moves
has_wrong_sum s _ fields = false

-- an overlook part, or that of a look, above its denominator
abbrev pub has_part_over : State → Line → List (List ℕ) → Bool
has_part_over s Overlook fields = nat_lt s.look (first_part (behind_first fields))
has_part_over s Rate fields = nat_lt s.look (first_part fields)
has_part_over s Look fields = list_any (λ f. nat_lt s.look (part f)) (pair_parts (behind_first fields))
has_part_over s LookIn fields = list_any (λ f. nat_lt s.look (part f)) (pair_parts (behind_two fields))
has_part_over s _ fields = false

-- a row of moves without moves
abbrev pub has_no_move : Line → List (List ℕ) → Bool
has_no_move Moves fields = length (behind_first fields) == 0
has_no_move _ fields = false

-- at the end the numbers are too wide for 128 bits
abbrev pub is_too_wide : State → Line → Bool
is_too_wide s End = not (is_narrow s)
is_too_wide s _ = false

-- The table.

-- the kinds of a line in their order, with the test of each
abbrev pub tests : State → Option Line → List (List ℕ) → List (Bool × TextKind)
tests s None fields = (true, BadLine) ∷ []
tests s (Some line) fields =
    (is_bad_line s line fields, BadLine)
    ∷ (is_bad_number s line fields, BadNumber)
    ∷ (is_over_limit s line fields, OverLimit)
    ∷ (has_unknown s line fields, UnknownName)
    ∷ (has_double_name s line fields, DoubleName)
    ∷ (has_missing_row s line, MissingRow)
    ∷ (has_double_row s line fields, DoubleRow)
    ∷ (has_wrong_sum s line fields, WrongSum)
    ∷ (has_part_over s line fields, PartOver)
    ∷ (has_no_move line fields, NoMove)
    ∷ (is_too_wide s line, TooWide)
    ∷ []

-- the line that these fields begin
abbrev pub line_of : State → List (List ℕ) → Option Line
line_of s [] = None
line_of s (word ∷ fields) = line_due s.version s.stage (nat_lt 0 (length s.names)) word

-- those of a line that says something: a byte that text doesn't have goes before all others
abbrev pub tests_of : State → List ℕ → List (Bool × TextKind)
tests_of s line = (not (list_all is_text_byte line), NotText) ∷ tests s (line_of s (fields_of line)) (behind_first (fields_of line))
