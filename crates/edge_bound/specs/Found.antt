-- What looks find of a unit of the target.
use Rattle.std.specs.Prelude.{ℕ, ◌-◌}
use Rattle.drift_chain.specs.DriftRows.{part_of}
use Rattle.search_model.specs.Problem.{Problem}
use Rattle.belief_update.specs.Found.{found_of}

-- what a look from position b in period t finds of a unit that was in cell c a period before
abbrev pub one_of : Problem → ℕ → ℕ → ℕ → ℕ
one_of p t c b = found_of p t b (part_of p.drift (t - 1) c)
