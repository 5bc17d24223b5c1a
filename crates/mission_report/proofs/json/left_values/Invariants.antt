use Rattle.std.proofs.Common.{◌≡◌, map, slice_index}
use Rattle.std.specs.List.{range_with_len}
use Rattle.serde_json.specs.View.{view}
use Rattle.mission_report.specs.Json.{left_entry}
use Rattle.mission_report.proofs.json.left_values.Given as goal

abbrev pub invariant-loop-c : goal.invariant-loop-c
invariant-loop-c l = map view l.values.items ≡ map (λ c. left_entry l.sc c (slice_index l.belief.masses c)) (range_with_len 0 l.c)
