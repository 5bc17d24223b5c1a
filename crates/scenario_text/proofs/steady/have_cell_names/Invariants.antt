use Rattle.std.proofs.Common.{◌≡◌, ◌<◌, ℕ, true}
use Rattle.std.specs.Str.{bytes_eq}
use Rattle.search_model.specs.Problem.{cell_name, position_name}
use Rattle.scenario_text.proofs.steady.have_cell_names.Given as goal

abbrev pub invariant-loop-q : goal.invariant-loop-q
invariant-loop-q l = (d : ℕ) → d < l.q → bytes_eq (position_name l.sc d) (cell_name l.sc d) ≡ true
