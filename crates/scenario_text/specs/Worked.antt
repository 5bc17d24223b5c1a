-- Worked texts: what their lines add, and a fault of each kind.
use Rattle.std.specs.Prelude.{ℕ, ◌≡◌, ◌+◌, true, false, List, [], ◌∷◌, ◌++◌, take, Some, Result, Ok, Err, codes}
use Rattle.period_rows.specs.declared.part.CellPart.{CellPart}
use Rattle.scenario_text.specs.declared.draft.Stage.TheVariants.{Ended}
use Rattle.scenario_text.specs.declared.draft.TextVersion.TheVariants.{One}
use Rattle.scenario_text.specs.declared.kind.TextKind.{TextKind}
use Rattle.scenario_text.specs.declared.kind.TextKind.TheVariants.{NotText, BadLine, BadNumber, OverLimit, UnknownName, DoubleName, MissingRow, DoubleRow, WrongSum, PartOver, NoMove, TooWide, EarlyEnd}
use Rattle.scenario_text.specs.declared.kind.TextFault.{TextFault}
use Rattle.scenario_text.specs.State.{State, blank_state}
use Rattle.text_rows.specs.LineMachine.{read_from}
use Rattle.scenario_text.specs.Reading.{Front, scenario_lines}

-- what some lines say, the first of a text
abbrev pub said : List (List ℕ) → Result Front TextFault
said lines = read_from scenario_lines blank_state 1 lines

abbrev pub entry : ℕ → ℕ → CellPart
entry cell part = record { cell = cell; part = part }

-- two cells, each with its rows
abbrev pub by_rows : List (List ℕ)
by_rows =
    codes "scenario 1"
    ∷ codes "horizon 2"
    ∷ codes "parts 3 2 4"
    ∷ codes "cell a"
    ∷ codes "cell b"
    ∷ codes "start b"
    ∷ codes "first a 1 b 2"
    ∷ codes "moves a a b"
    ∷ codes "moves b a"
    ∷ codes "drift a b 2"
    ∷ codes "drift b a 1 b 1"
    ∷ codes "overlook b 4"
    ∷ codes "overlook a 0"
    ∷ codes "end"
    ∷ []

abbrev pub rows_say : State
rows_say = record {
  stage = Ended;
  version = One;
  horizon = 2;
  total = 3;
  drift = 2;
  look = 4;
  names = codes "a" ∷ codes "b" ∷ [];
  positions = [];
  gridded = false;
  start = 1;
  first = entry 0 1 ∷ entry 1 2 ∷ [];
  moves = (0 ∷ 1 ∷ []) ∷ (0 ∷ []) ∷ [];
  parts = (entry 1 2 ∷ []) ∷ (entry 0 1 ∷ entry 1 1 ∷ []) ∷ [];
  overlook = Some 0 ∷ Some 4 ∷ [];
  looks = [];
  drift_rows = [];
  look_rows = [];
}

-- a grid of one row, and what is said of all its cells at once
abbrev pub by_grid : List (List ℕ)
by_grid =
    codes "scenario 1"
    ∷ codes "# a comment"
    ∷ codes "horizon 1"
    ∷ codes "parts 1 4 5"
    ∷ codes "grid 1 2"
    ∷ codes "start r0c1"
    ∷ codes "first r0c0 1"
    ∷ codes "rate 3"
    ∷ codes "spread 1"
    ∷ codes "end"
    ∷ []

abbrev pub grid_says : State
grid_says = record {
  stage = Ended;
  version = One;
  horizon = 1;
  total = 1;
  drift = 4;
  look = 5;
  names = codes "r0c0" ∷ codes "r0c1" ∷ [];
  positions = [];
  gridded = true;
  start = 1;
  first = entry 0 1 ∷ [];
  moves = (0 ∷ 1 ∷ []) ∷ (0 ∷ 1 ∷ []) ∷ [];
  parts = (entry 0 3 ∷ entry 1 1 ∷ []) ∷ (entry 0 1 ∷ entry 1 3 ∷ []) ∷ [];
  overlook = Some 3 ∷ Some 3 ∷ [];
  looks = [];
  drift_rows = [];
  look_rows = [];
}

-- the widest numbers
abbrev pub wide : List (List ℕ)
wide =
    codes "scenario 1"
    ∷ codes "horizon 32"
    ∷ codes "parts 1000000 1000000 1000000"
    ∷ codes "grid 1 1"
    ∷ codes "start r0c0"
    ∷ codes "first r0c0 1000000"
    ∷ codes "spread 0"
    ∷ codes "rate 0"
    ∷ codes "end"
    ∷ []

abbrev pub HasFault : List (List ℕ) → ℕ → TextKind → Type 0
HasFault lines number kind = said lines ≡ Err (record { line = number; kind = kind })

-- the first lines of the text by rows are right, so many, and this line behind them isn't
abbrev pub IsWrong : ℕ → List ℕ → TextKind → Type 0
IsWrong n line kind = HasFault (take n by_rows ++ line ∷ []) (n + 1) kind

pub record WorkedTexts : Type 0 where
  pub rows : said by_rows ≡ Ok (record { state = rows_say; line = 14 })
  pub grid : said by_grid ≡ Ok (record { state = grid_says; line = 10 })
  pub not_text : IsWrong 1 (codes "horizon " ++ 128 ∷ []) NotText
  pub bad_line : IsWrong 1 (codes "horizon 1 1") BadLine
  pub out_of_place : IsWrong 1 (codes "parts 3 2 4") BadLine
  pub grid_alone : IsWrong 7 (codes "spread 1") BadLine
  pub bad_number : IsWrong 1 (codes "horizon 02") BadNumber
  pub over_limit : IsWrong 1 (codes "horizon 33") OverLimit
  pub unknown : IsWrong 5 (codes "start c") UnknownName
  pub double_name : IsWrong 4 (codes "cell a") DoubleName
  pub missing_row : IsWrong 12 (codes "end") MissingRow
  pub double_row : IsWrong 8 (codes "moves a b") DoubleRow
  pub wrong_sum : IsWrong 6 (codes "first a 1 b 1") WrongSum
  pub part_over : IsWrong 11 (codes "overlook a 5") PartOver
  pub no_move : IsWrong 7 (codes "moves b") NoMove
  pub too_wide : HasFault wide 9 TooWide
  pub early_end : HasFault (take 13 by_rows) 14 EarlyEnd
  pub number_first : IsWrong 6 (codes "first c 1000001 c 0") BadNumber
