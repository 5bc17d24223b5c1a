use Rattle.std.proofs.Common.{◌≡◌, map, take}
use Rattle.serde_json.specs.View.{view}
use Rattle.mission_report.specs.Json.{decimal_value}
use Rattle.mission_report.proofs.json.number_values.Given as goal

abbrev pub invariant-loop-n : goal.invariant-loop-n
invariant-loop-n l = map view l.values.items ≡ map decimal_value (take l.n-index l.numbers)
