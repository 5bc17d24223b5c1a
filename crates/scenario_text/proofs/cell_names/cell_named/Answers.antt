use Rattle.std.proofs.Common.{sym, ◌∙◌, ℕ, Vec, Global}
use Rattle.std.specs.Str.{bytes_eq}
use Rattle.scenario_text.proofs.Positions.{position_map}
use Rattle.scenario_text.proofs.cell_names.cell_named.Goals as goal

pub returns-in-Some-clause-value : goal.returns-in-Some-clause-value
returns-in-Some-clause-value c = c.in-Some.ensures.index ∙ sym (position_map (λ (n : Vec ℕ Global). n.items) (bytes_eq c.args.name.now) c.args.names.now.keys)

pub returns-in-None-clause-value : goal.returns-in-None-clause-value
returns-in-None-clause-value c = c.in-None.ensures.index ∙ sym (position_map (λ (n : Vec ℕ Global). n.items) (bytes_eq c.args.name.now) c.args.names.now.keys)
