-- The scenario that a text spells.
use Rattle.std.specs.Prelude.{ℕ, ◌≡◌, ◌+◌, ◌<◌, List, [], map, length, unwrap_or, Result, Ok, Err}
use Rattle.std.specs.List.{AllZip}
use Rattle.std.specs.List.Sorted.{IsPermutation}
use Rattle.search_grid.specs.Faults.{HasSameMoves}
use Rattle.period_rows.specs.declared.part.CellPart.{CellPart}
use Rattle.period_rows.specs.Changes.{RowChange, HaveRows, IsSameChange}
use Rattle.drift_chain.specs.DriftRows.{part_in}
use Rattle.sweep_table.specs.LookParts.{LookParts, misses, parts_over}
use Rattle.period_rows.specs.Rows.{IsAscending}
use Rattle.search_model.specs.Problem.{Problem, IsProblem, first_of}
use Rattle.scenario_text.specs.declared.stop.TextStop.{TextStop}
use Rattle.scenario_text.specs.declared.stop.TextStop.TheVariants.{Fault, NoMemory}
use Rattle.text_rows.specs.Lines.{after_lines}
use Rattle.scenario_text.specs.declared.draft.TextVersion.{TextVersion}
use Rattle.scenario_text.specs.declared.draft.TextVersion.TheVariants.{One, Two}
use Rattle.scenario_text.specs.State.{State, PeriodRow, positions_in}
use Rattle.scenario_text.specs.Reading.{Front, front_of, alone_of}

-- a drift row of one period, as a drift has it
abbrev pub drift_change_of : PeriodRow → RowChange
drift_change_of r = record { period = r.period; owner = r.own; row = r.row }

-- the entries of a look row, as a sweep has them
abbrev pub look_parts : List CellPart → List CellPart
look_parts row = map (λ e. misses e.cell e.part) row

-- a look row of one period, as a sweep has it
abbrev pub look_change_of : PeriodRow → RowChange
look_change_of r = record { period = r.period; owner = r.own; row = look_parts r.row }

-- in version 2 the looks are those of the rows, and of the rows of single periods, with their entries in ascending order
pub record AreLooksOf (s : State) (sweep : LookParts) : Type 0 where
  pub denominator : sweep.denominator ≡ s.look
  pub cells : sweep.cells ≡ length s.names
  pub rows : AllZip IsPermutation (map (λ row. look_parts (unwrap_or row [])) s.looks) sweep.rows
  pub changes : AllZip IsSameChange (map look_change_of s.look_rows) sweep.changes
  pub ascending : HaveRows IsAscending sweep.changes

-- in version 1 each look covers the cell of its position's number alone, with its overlook part
abbrev pub SaysLooks : TextVersion → State → LookParts → Type 0
SaysLooks One s sweep = sweep ≡ parts_over s.look (map (λ o. unwrap_or o 0) s.overlook)
SaysLooks Two s sweep = AreLooksOf s sweep

-- the problem is what was read; its moves, drift entries and looks are those of the rows, in ascending order
pub record Says (s : State) (p : Problem) : Type 0 where
  pub sound : IsProblem p
  pub names : p.names ≡ s.names
  pub position_names : p.position_names ≡ positions_in s
  pub horizon : p.horizon ≡ s.horizon
  pub start : p.start ≡ s.start
  pub total : p.total ≡ s.total
  pub first : (c : ℕ) → c < p.cells → first_of p c ≡ part_in s.first c
  pub moves : HasSameMoves s.moves p.moves
  pub denominator : p.drift.denominator ≡ s.drift
  pub parts : AllZip IsPermutation s.parts p.drift.rows
  pub changes : AllZip IsSameChange (map drift_change_of s.drift_rows) p.drift.changes
  pub sweep : SaysLooks s.version s p.sweep

-- the text of this scenario, up to its line `end`, stands at the front, and has so many bytes
pub record IsFront (text : List ℕ) (p : Problem) (n : ℕ) : Type 0 where
  pub front : Front
  pub read : front_of text ≡ Ok front
  pub says : Says front.state p
  pub bytes : n + length (after_lines front.line text) ≡ length text

-- the text is that of this scenario alone
pub record IsTextOf (p : Problem) (text : List ℕ) : Type 0 where
  pub front : Front
  pub read : alone_of text ≡ Ok front
  pub says : Says front.state p

-- the scenario at the front with the length of its text, or the first fault, unless memory ran out
abbrev pub ReadsFront : List ℕ → Result (Problem × ℕ) TextStop → Type 0
ReadsFront text (Ok r) = IsFront text r.0 r.1
ReadsFront text (Err (Fault fault)) = front_of text ≡ Err fault
ReadsFront text (Err NoMemory) = Unit {0}

-- the scenario of the text, or the first fault, unless memory ran out
abbrev pub ReadsAlone : List ℕ → Result Problem TextStop → Type 0
ReadsAlone text (Ok p) = IsTextOf p text
ReadsAlone text (Err (Fault fault)) = alone_of text ≡ Err fault
ReadsAlone text (Err NoMemory) = Unit {0}
