-- The search problem: what contracts see of a scenario.
use Rattle.std.specs.Prelude.{ℕ, ◌≡◌, ◌<◌, ◌≤◌, List, length, Option, position, slice_index, sum}
use Rattle.std.specs.Str.{bytes_eq}
use Rattle.exact_parts.specs.Width.{Fits}
use Rattle.search_grid.specs.Moves.{IsGrid}
use Rattle.drift_chain.specs.DriftRows.{DriftRows, drift_cells, IsDrift}
use Rattle.sweep_table.specs.LookParts.{LookParts, positions_of, cells_of, IsSweep}
use Rattle.search_model.specs.Names.{AreNames, name_in}

-- The target drifts among cells; the searcher moves among positions, and looks from them at cells.
pub record Problem : Type 0 where
  pub names : List (List ℕ)
  pub position_names : List (List ℕ)
  pub cells : ℕ
  pub positions : ℕ
  pub horizon : ℕ
  pub start : ℕ
  pub total : ℕ
  pub first : List ℕ
  pub moves : List (List ℕ)
  pub drift : DriftRows
  pub sweep : LookParts

-- what every scenario keeps
pub record IsProblem (p : Problem) : Type 0 where
  pub horizon : (1 ≤ p.horizon) × (p.horizon ≤ 32)
  pub total : (1 ≤ p.total) × (p.total ≤ 1000000)
  pub cells : (1 ≤ p.cells) × (p.cells ≤ 200)
  pub positions : (1 ≤ p.positions) × (p.positions ≤ 200)
  pub names : AreNames p.cells p.names
  pub position_names : AreNames p.positions p.position_names
  pub start : p.start < p.positions
  pub first_length : length p.first ≡ p.cells
  pub first_total : sum p.first ≡ p.total
  pub grid : IsGrid p.moves
  pub grid_positions : length p.moves ≡ p.positions
  pub drift : IsDrift p.drift
  pub drift_cells : drift_cells p.drift ≡ p.cells
  pub sweep : IsSweep p.sweep
  pub sweep_positions : positions_of p.sweep ≡ p.positions
  pub sweep_cells : cells_of p.sweep ≡ p.cells
  pub fits : Fits p.total p.drift.denominator p.sweep.denominator p.horizon

-- the part of the target's first distribution that stands in a cell
abbrev pub first_of : Problem → ℕ → ℕ
first_of p c = slice_index p.first c

-- the name of a cell
abbrev pub cell_name : Problem → ℕ → List ℕ
cell_name p c = name_in p.names c

-- the name of a position
abbrev pub position_name : Problem → ℕ → List ℕ
position_name p a = name_in p.position_names a

-- the position of a name
abbrev pub position_named : Problem → List ℕ → Option ℕ
position_named p name = position (λ n. bytes_eq n name) p.position_names
