-- Where each line may stand.
use Rattle.std.specs.Prelude.{◌≡◌}
use Rattle.scenario_text.specs.declared.draft.Stage.{Stage}
use Rattle.scenario_text.specs.declared.draft.Stage.TheVariants as due
use Rattle.scenario_text.specs.declared.draft.TextVersion.{TextVersion}
use Rattle.scenario_text.specs.declared.draft.TextVersion.TheVariants.{One, Two}
use Rattle.scenario_text.specs.declared.line.Line.{Line}
use Rattle.scenario_text.specs.declared.line.Line.TheVariants.{Scenario, Horizon, Parts, Cell, Position, Grid, Start, First, DriftIn, Overlook, Spread, Rate, Look, LookIn}
use Rattle.scenario_text.specs.Sound.{place_of}

-- a line of the head has its stage, but a start may stand behind a cell, a grid or a position; all others are rows; some are of one version alone
abbrev pub IsPlace : Line → TextVersion → Stage → Type 0
IsPlace Scenario version stage = stage ≡ due.Version
IsPlace Horizon version stage = stage ≡ due.Horizon
IsPlace Parts version stage = stage ≡ due.Parts
IsPlace Cell version stage = stage ≡ due.Cells
IsPlace Position version stage = (version ≡ Two) × (place_of stage ≡ 3)
IsPlace Grid version stage = (version ≡ One) × (stage ≡ due.Cells)
IsPlace Start version stage = place_of stage ≡ 3
IsPlace First version stage = stage ≡ due.First
IsPlace Overlook version stage = (version ≡ One) × (stage ≡ due.Rows)
IsPlace Spread version stage = (version ≡ One) × (stage ≡ due.Rows)
IsPlace Rate version stage = (version ≡ One) × (stage ≡ due.Rows)
IsPlace DriftIn version stage = (version ≡ Two) × (stage ≡ due.Rows)
IsPlace Look version stage = (version ≡ Two) × (stage ≡ due.Rows)
IsPlace LookIn version stage = (version ≡ Two) × (stage ≡ due.Rows)
IsPlace _ version stage = stage ≡ due.Rows
