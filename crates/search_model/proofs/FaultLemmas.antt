-- The first fault of parts.
use Rattle.std.proofs.Common.{ℕ, ◌≡◌, ◌<◌, ◌≤◌, length, sum, inl, inr, arith}
use Rattle.exact_parts.specs.Width.{Fits}
use Rattle.search_model.specs.declared.scenario.Parts.{Parts}
use Rattle.search_model.specs.declared.scenario.ModelFault.{ModelFault}
use Rattle.search_model.specs.declared.scenario.ModelFault.TheVariants.{OutOfLimits, SizesDiffer, StartOutOfRange, WrongFirstSum, DoubleName, TooWide, DoublePosition}
use Rattle.search_model.specs.Names.{IsRepeated}
use Rattle.search_model.specs.Problem.{IsProblem}
use Rattle.search_model.specs.Parts.{problem_of}
use Rattle.search_model.specs.Faults.{WithinLimits, SizesAgree, HasFault, GoesBefore, IsFirstFault}

module _ (s : Parts) (limits : WithinLimits s) (sizes : SizesAgree s) (start : length s.grid ≤ s.start → ⊥) (total : sum s.first.items ≡ s.total) where
  before_double : (c : ℕ) → ((d : ℕ) → d < c → ¬ IsRepeated s.names.items d) → (other : ModelFault) → GoesBefore other (DoubleName c) → ¬ HasFault s other
  before_double c differ OutOfLimits before has = has limits
  before_double c differ SizesDiffer before has = has sizes
  before_double c differ StartOutOfRange before has = start has
  before_double c differ WrongFirstSum before has = has total
  before_double c differ (DoubleName d) before has = elim before [ inl less ↦ omega (arith, less) | inr same ↦ differ d same.1 has ]
  before_double c differ TooWide before has = elim before [ inl less ↦ omega (arith, less) | inr same ↦ omega (arith, same.0) ]
  before_double c differ (DoublePosition a) before has = elim before [ inl less ↦ omega (arith, less) | inr same ↦ omega (arith, same.0) ]

  -- a repeated name is the first fault where the sizes and sums are right and no name before it is repeated
  pub double_is_first : (c : ℕ) → IsRepeated s.names.items c → ((d : ℕ) → d < c → ¬ IsRepeated s.names.items d) → IsFirstFault s (DoubleName c)
  double_is_first c has differ = record { has = has; first = before_double c differ }

  before_wide : ((d : ℕ) → ¬ IsRepeated s.names.items d) → (other : ModelFault) → GoesBefore other TooWide → ¬ HasFault s other
  before_wide differ OutOfLimits before has = has limits
  before_wide differ SizesDiffer before has = has sizes
  before_wide differ StartOutOfRange before has = start has
  before_wide differ WrongFirstSum before has = has total
  before_wide differ (DoubleName d) before has = differ d has
  before_wide differ TooWide before has = elim before [ inl less ↦ omega (arith, less) | inr same ↦ omega (arith, same.1) ]
  before_wide differ (DoublePosition a) before has = elim before [ inl less ↦ omega (arith, less) | inr same ↦ omega (arith, same.0) ]

  -- too wide is the first fault where the cells' names differ, too
  pub wide_is_first : ((d : ℕ) → ¬ IsRepeated s.names.items d) → ¬ Fits s.total s.drift.denominator s.sweep.denominator s.horizon → IsFirstFault s TooWide
  wide_is_first differ has = record { has = has; first = before_wide differ }

  before_double_position : ((d : ℕ) → ¬ IsRepeated s.names.items d) → Fits s.total s.drift.denominator s.sweep.denominator s.horizon →
      (a : ℕ) → ((b : ℕ) → b < a → ¬ IsRepeated s.positions.items b) → (other : ModelFault) → GoesBefore other (DoublePosition a) → ¬ HasFault s other
  before_double_position differ fits a apart OutOfLimits before has = has limits
  before_double_position differ fits a apart SizesDiffer before has = has sizes
  before_double_position differ fits a apart StartOutOfRange before has = start has
  before_double_position differ fits a apart WrongFirstSum before has = has total
  before_double_position differ fits a apart (DoubleName d) before has = differ d has
  before_double_position differ fits a apart TooWide before has = has fits
  before_double_position differ fits a apart (DoublePosition b) before has = elim before [ inl less ↦ omega (arith, less) | inr same ↦ apart b same.1 has ]

  -- a repeated name of a position is the first fault where the sums fit, too, and no name before it is repeated
  pub double_position_is_first : ((d : ℕ) → ¬ IsRepeated s.names.items d) → Fits s.total s.drift.denominator s.sweep.denominator s.horizon →
      (a : ℕ) → IsRepeated s.positions.items a → ((b : ℕ) → b < a → ¬ IsRepeated s.positions.items b) → IsFirstFault s (DoublePosition a)
  double_position_is_first differ fits a has apart = record { has = has; first = before_double_position differ fits a apart }

  -- then no fault is left
  pub no_fault : ((d : ℕ) → ¬ IsRepeated s.names.items d) → Fits s.total s.drift.denominator s.sweep.denominator s.horizon → ((b : ℕ) → ¬ IsRepeated s.positions.items b) → (fault : ModelFault) → ¬ HasFault s fault
  no_fault differ fits apart OutOfLimits has = has limits
  no_fault differ fits apart SizesDiffer has = has sizes
  no_fault differ fits apart StartOutOfRange has = start has
  no_fault differ fits apart WrongFirstSum has = has total
  no_fault differ fits apart (DoubleName d) has = differ d has
  no_fault differ fits apart TooWide has = has fits
  no_fault differ fits apart (DoublePosition b) has = apart b has

-- parts that make a problem have no fault
pub faultless : (parts : Parts) → IsProblem (problem_of parts) → (fault : ModelFault) → ¬ HasFault parts fault
faultless parts right =
    no_fault parts
    (record { horizon = right.horizon; total = right.total })
    (record { names = right.names.count; first = right.first_length; cells = right.sweep_cells; position_names = right.position_names.count; positions = right.sweep_positions })
    (λ past. omega (arith, past, right.start))
    right.first_total
    right.names.differ
    right.fits
    right.position_names.differ
