-- Worked texts of version 2: what their lines add, and faults of each kind.
use Rattle.std.specs.Prelude.{ℕ, ◌≡◌, ◌-◌, false, List, [], ◌∷◌, ◌++◌, take, Some, Ok, codes}
use Rattle.period_rows.specs.declared.part.CellPart.{CellPart}
use Rattle.scenario_text.specs.declared.draft.Stage.TheVariants.{Ended}
use Rattle.scenario_text.specs.declared.draft.TextVersion.TheVariants.{Two}
use Rattle.scenario_text.specs.declared.kind.TextKind.{TextKind}
use Rattle.scenario_text.specs.declared.kind.TextKind.TheVariants.{BadLine, BadNumber, OverLimit, UnknownName, DoubleName, MissingRow, DoubleRow, WrongSum, PartOver, NoMove}
use Rattle.scenario_text.specs.State.{State, PeriodRow}
use Rattle.scenario_text.specs.Worked.{entry, said, HasFault, IsWrong}

-- one position from which a look covers two cells, another way in period 2
abbrev pub by_positions : List (List ℕ)
by_positions =
    codes "scenario 2"
    ∷ codes "horizon 2"
    ∷ codes "parts 1 2 2"
    ∷ codes "cell a"
    ∷ codes "cell b"
    ∷ codes "position w"
    ∷ codes "start w"
    ∷ codes "first a 1"
    ∷ codes "moves w w"
    ∷ codes "drift a a 1 b 1"
    ∷ codes "drift b b 2"
    ∷ codes "look w a 1 b 1"
    ∷ codes "lookin 2 w b 0"
    ∷ []

abbrev pub in_period : ℕ → ℕ → List CellPart → PeriodRow
in_period period own row = record { period = period; own = own; row = row }

abbrev pub positions_say : State
positions_say = record {
  stage = Ended;
  version = Two;
  horizon = 2;
  total = 1;
  drift = 2;
  look = 2;
  names = codes "a" ∷ codes "b" ∷ [];
  positions = codes "w" ∷ [];
  gridded = false;
  start = 0;
  first = entry 0 1 ∷ [];
  moves = (0 ∷ []) ∷ [];
  parts = (entry 0 1 ∷ entry 1 1 ∷ []) ∷ (entry 1 2 ∷ []) ∷ [];
  overlook = [];
  looks = Some (entry 0 1 ∷ entry 1 1 ∷ []) ∷ [];
  drift_rows = [];
  look_rows = in_period 2 0 (entry 1 0 ∷ []) ∷ [];
}

-- with a row of drift for period 1, and the look's row behind that of its period
abbrev pub by_periods : List (List ℕ)
by_periods = take 11 by_positions ++ codes "lookin 2 w b 0" ∷ codes "driftin 1 a a 2" ∷ codes "look w a 1 b 1" ∷ codes "end" ∷ []

-- two positions, from one of which a look covers nothing
abbrev pub by_base : List (List ℕ)
by_base =
    codes "scenario 2"
    ∷ codes "horizon 1"
    ∷ codes "parts 1 1 2"
    ∷ codes "cell a"
    ∷ codes "position base"
    ∷ codes "position air"
    ∷ codes "start base"
    ∷ codes "first a 1"
    ∷ codes "moves base base air"
    ∷ codes "moves air air"
    ∷ codes "drift a a 1"
    ∷ codes "look base"
    ∷ codes "look air a 1"
    ∷ codes "end"
    ∷ []

abbrev pub base_says : State
base_says = record {
  stage = Ended;
  version = Two;
  horizon = 1;
  total = 1;
  drift = 1;
  look = 2;
  names = codes "a" ∷ [];
  positions = codes "base" ∷ codes "air" ∷ [];
  gridded = false;
  start = 0;
  first = entry 0 1 ∷ [];
  moves = (0 ∷ 1 ∷ []) ∷ (1 ∷ []) ∷ [];
  parts = (entry 0 1 ∷ []) ∷ [];
  overlook = [];
  looks = Some [] ∷ Some (entry 0 1 ∷ []) ∷ [];
  drift_rows = [];
  look_rows = [];
}

-- a cell and a position that have one name, which is a keyword
abbrev pub by_keyword : List (List ℕ)
by_keyword =
    codes "scenario 2"
    ∷ codes "horizon 1"
    ∷ codes "parts 1 1 2"
    ∷ codes "cell end"
    ∷ codes "position -"
    ∷ codes "position end"
    ∷ codes "start end"
    ∷ codes "first end 1"
    ∷ codes "moves end end -"
    ∷ codes "moves - -"
    ∷ codes "drift end end 1"
    ∷ codes "look end end 0"
    ∷ codes "look - end 2"
    ∷ codes "end"
    ∷ []

abbrev pub keyword_says : State
keyword_says = record base_says {
  names = codes "end" ∷ [];
  positions = codes "-" ∷ codes "end" ∷ [];
  start = 1;
  moves = (0 ∷ []) ∷ (1 ∷ 0 ∷ []) ∷ [];
  looks = Some (entry 0 2 ∷ []) ∷ Some (entry 0 0 ∷ []) ∷ [];
}

-- the lines of the text by positions up to one of this number are right, and this line in its place isn't
abbrev pub IsWrongTwo : ℕ → List ℕ → TextKind → Type 0
IsWrongTwo n line kind = HasFault (take (n - 1) by_positions ++ line ∷ []) n kind

pub record WorkedTwo : Type 0 where
  pub positions : said (by_positions ++ codes "end" ∷ []) ≡ Ok (record { state = positions_say; line = 14 })
  pub periods : said by_periods ≡ Ok (record { state = record positions_say { drift_rows = in_period 1 0 (entry 0 2 ∷ []) ∷ [] }; line = 15 })
  pub base : said by_base ≡ Ok (record { state = base_says; line = 14 })
  pub keyword : said by_keyword ≡ Ok (record { state = keyword_says; line = 14 })
  pub position_first : IsWrongTwo 4 (codes "position w") BadLine
  pub grid : IsWrongTwo 6 (codes "grid 1 1") BadLine
  pub start_first : IsWrongTwo 6 (codes "start w") BadLine
  pub no_name : IsWrongTwo 6 (codes "position") BadLine
  pub ill_name : IsWrongTwo 6 (codes "position w.x") BadLine
  pub long_name : IsWrongTwo 6 (codes "position abcdefghijklmnopqrstuvwxy") OverLimit
  pub double_position : IsWrongTwo 7 (codes "position w") DoubleName
  pub cell_late : IsWrongTwo 7 (codes "cell c") BadLine
  pub start_at_cell : IsWrongTwo 7 (codes "start a") UnknownName
  pub first_at_position : IsWrongTwo 8 (codes "first w 1") UnknownName
  pub overlook : IsWrongTwo 9 (codes "overlook a 1") BadLine
  pub spread : IsWrongTwo 9 (codes "spread 1") BadLine
  pub rate : IsWrongTwo 9 (codes "rate 1") BadLine
  pub moves_of_cell : IsWrongTwo 9 (codes "moves a w") UnknownName
  pub moves_to_cell : IsWrongTwo 9 (codes "moves w a") UnknownName
  pub moves_twice : IsWrongTwo 9 (codes "moves w w w") DoubleName
  pub no_move : IsWrongTwo 9 (codes "moves w") NoMove
  pub drift_of_position : IsWrongTwo 10 (codes "drift w a 2") UnknownName
  pub lacks_drift : IsWrongTwo 11 (codes "end") MissingRow
  pub lacks_look : IsWrongTwo 12 (codes "end") MissingRow
  pub look_no_position : IsWrongTwo 12 (codes "look") BadLine
  pub look_no_part : IsWrongTwo 12 (codes "look w a") BadLine
  pub look_bad_part : IsWrongTwo 12 (codes "look a a 01") BadNumber
  pub look_large_part : IsWrongTwo 12 (codes "look a a 1000001") OverLimit
  pub look_of_cell : IsWrongTwo 12 (codes "look a a 1") UnknownName
  pub look_at_position : IsWrongTwo 12 (codes "look w w 1") UnknownName
  pub look_twice : IsWrongTwo 12 (codes "look w a 3 a 0") DoubleName
  pub look_over : IsWrongTwo 12 (codes "look w b 2 a 3") PartOver
  pub look_again : IsWrongTwo 13 (codes "look w a 3") DoubleRow
  pub lookin_alone : IsWrongTwo 13 (codes "lookin 2") BadLine
  pub lookin_no_part : IsWrongTwo 13 (codes "lookin 2 w b") BadLine
  pub lookin_period_0 : IsWrongTwo 13 (codes "lookin 0 w b 1000001") BadNumber
  pub lookin_period_3 : IsWrongTwo 13 (codes "lookin 3 w b 0") OverLimit
  pub lookin_of_cell : IsWrongTwo 13 (codes "lookin 2 b b 0") UnknownName
  pub lookin_twice : IsWrongTwo 13 (codes "lookin 1 w b 0 b 0") DoubleName
  pub lookin_over : IsWrongTwo 13 (codes "lookin 2 w b 3") PartOver
  pub lookin_again : IsWrongTwo 14 (codes "lookin 2 w") DoubleRow
  pub driftin_pair : IsWrongTwo 13 (codes "driftin 1 a a") BadLine
  pub driftin_none : IsWrongTwo 13 (codes "driftin 1 a") BadLine
  pub driftin_period_0 : IsWrongTwo 13 (codes "driftin 0 a a 2") BadNumber
  pub driftin_part_0 : IsWrongTwo 13 (codes "driftin 2 a a 0") BadNumber
  pub driftin_period_2 : IsWrongTwo 13 (codes "driftin 2 a a 2") OverLimit
  pub driftin_of_position : IsWrongTwo 13 (codes "driftin 1 w a 2") UnknownName
  pub driftin_twice : IsWrongTwo 13 (codes "driftin 1 a a 1 a 1") DoubleName
  pub driftin_sum : IsWrongTwo 13 (codes "driftin 1 a a 1") WrongSum
  pub driftin_again : HasFault (by_positions ++ codes "driftin 1 a a 2" ∷ codes "driftin 1 a b 1" ∷ []) 15 DoubleRow
  pub driftin_horizon_1 : HasFault (take 11 by_base ++ codes "driftin 1 a a 1" ∷ []) 12 OverLimit
  pub driftin_horizon_0 : HasFault (take 11 by_base ++ codes "driftin 0 a a 1" ∷ []) 12 BadNumber
  pub position_of_one : IsWrong 4 (codes "position w") BadLine
  pub driftin_of_one : IsWrong 7 (codes "driftin 1 a a 2") BadLine
  pub look_of_one : IsWrong 7 (codes "look a a 1") BadLine
  pub lookin_of_one : IsWrong 7 (codes "lookin 1 a a 1") BadLine
