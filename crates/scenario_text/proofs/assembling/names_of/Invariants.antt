use Rattle.std.proofs.Common.{◌≡◌, map, take}
use Rattle.scenario_text.proofs.assembling.names_of.Given as goal

abbrev pub invariant-loop-key : goal.invariant-loop-key
invariant-loop-key l = l.names.items ≡ map (λ n. n.items) (take l.key-index l.all)
