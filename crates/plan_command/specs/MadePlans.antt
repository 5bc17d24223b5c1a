-- The plan of a scenario that is made of the input's.
use Rattle.std.specs.Prelude.{ℕ, ◌≡◌, List, ◌++◌}
use Rattle.search_model.specs.Problem.{Problem}
use Rattle.scenario_text.specs.Canonical.{canonical_text}
use Rattle.plan_command.specs.Plans.{IsPlanOf}

-- the text of the scenario, and at once behind it that of a certified plan of it, which has at most so many records
abbrev pub IsMadeAndPlanned : ℕ → Problem → List ℕ → Type 0
IsMadeAndPlanned nodes q text = (rest : List ℕ) × IsPlanOf nodes q rest × (text ≡ canonical_text q ++ rest)
