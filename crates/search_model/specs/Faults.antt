-- Why parts make no scenario, and the fault that is named.
use Rattle.std.specs.Prelude.{ℕ, ◌≡◌, ◌≢◌, ◌<◌, ◌≤◌, ◌⊎◌, length, sum}
use Rattle.exact_parts.specs.Width.{Fits}
use Rattle.drift_chain.specs.DriftRows.{drift_cells}
use Rattle.sweep_table.specs.LookParts.{positions_of, cells_of}
use Rattle.search_model.specs.declared.scenario.Parts.{Parts}
use Rattle.search_model.specs.declared.scenario.ModelFault.{ModelFault}
use Rattle.search_model.specs.declared.scenario.ModelFault.TheVariants.{OutOfLimits, SizesDiffer, StartOutOfRange, WrongFirstSum, DoubleName, TooWide, DoublePosition}
use Rattle.search_model.specs.Names.{IsRepeated}

-- the names, first parts, drift rows and looks agree on the number of cells, and the names, moves and looks on the number of
-- positions
pub record SizesAgree (s : Parts) : Type 0 where
  pub names : length s.names.items ≡ drift_cells s.drift
  pub first : length s.first.items ≡ drift_cells s.drift
  pub cells : cells_of s.sweep ≡ drift_cells s.drift
  pub position_names : length s.positions.items ≡ length s.grid
  pub positions : positions_of s.sweep ≡ length s.grid

-- a horizon from 1 to 32 and a total from 1 to 1,000,000
pub record WithinLimits (s : Parts) : Type 0 where
  pub horizon : (1 ≤ s.horizon) × (s.horizon ≤ 32)
  pub total : (1 ≤ s.total) × (s.total ≤ 1000000)

-- what each fault says of parts
abbrev pub HasFault : Parts → ModelFault → Type 0
HasFault s OutOfLimits = ¬ WithinLimits s
HasFault s SizesDiffer = ¬ SizesAgree s
HasFault s StartOutOfRange = length s.grid ≤ s.start
HasFault s WrongFirstSum = sum s.first.items ≢ s.total
HasFault s (DoubleName c) = IsRepeated s.names.items c
HasFault s TooWide = ¬ Fits s.total s.drift.denominator s.sweep.denominator s.horizon
HasFault s (DoublePosition a) = IsRepeated s.positions.items a

-- the numbers of the faults
abbrev pub number_of : ModelFault → ℕ
number_of OutOfLimits = 1
number_of SizesDiffer = 2
number_of StartOutOfRange = 3
number_of WrongFirstSum = 4
number_of (DoubleName c) = 5
number_of TooWide = 6
number_of (DoublePosition a) = 7

-- the cell or the position that a fault names
abbrev pub named_by : ModelFault → ℕ
named_by (DoubleName c) = c
named_by (DoublePosition a) = a
named_by _ = 0

-- the smaller number goes first, and of repeated names the least cell or position
abbrev pub GoesBefore : ModelFault → ModelFault → Type 0
GoesBefore f g = (number_of f < number_of g) ⊎ ((number_of f ≡ number_of g) × (named_by f < named_by g))

-- parts have this fault and none that goes before it
pub record IsFirstFault (s : Parts) (fault : ModelFault) : Type 0 where
  pub has : HasFault s fault
  pub first : (other : ModelFault) → GoesBefore other fault → ¬ HasFault s other
