use Rattle.std.proofs.Common.{◌≡◌, [], map, take, unwrap_or}
use Rattle.std.specs.Option.{option_map}
use Rattle.scenario_text.specs.Scenarios.{look_parts}
use Rattle.scenario_text.proofs.sweeps.look_rows.Given as goal

abbrev pub invariant-loop-look : goal.invariant-loop-look
invariant-loop-look l = map (λ r. r.items) l.rows.items ≡ map (λ row. look_parts (unwrap_or row [])) (map (option_map (λ r. r.items)) (take l.look-index l.looks))
