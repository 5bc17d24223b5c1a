use Rattle.std.proofs.Common.{◌≡◌, map, take}
use Rattle.serde_json.specs.View.{view}
use Rattle.mission_report.specs.Json.{place_value}
use Rattle.mission_report.proofs.json.place_values.Given as goal

abbrev pub invariant-loop-a : goal.invariant-loop-a
invariant-loop-a l = map view l.values.items ≡ map (place_value l.sc) (take l.a-index l.path)
