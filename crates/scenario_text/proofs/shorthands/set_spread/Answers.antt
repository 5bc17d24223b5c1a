use Rattle.std.proofs.Common.{rules}
use Rattle.list_laws.proofs.Mapped.{list_any-map}
use Rattle.scenario_text.proofs.shorthands.set_spread.Goals as goal

pub returns-then-any_parts : goal.returns-then-any_parts
returns-then-any_parts c = simp list_any-map (search rules)

pub returns-then-any_takes_more : goal.returns-then-any_takes_more
returns-then-any_takes_more c = simp list_any-map (search rules)

pub returns : goal.returns
returns c = simp list_any-map (search rules)
