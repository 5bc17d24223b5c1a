use Rattle.std.proofs.Common.{map, length}
use Rattle.scenario_text.proofs.PairSteps.{IsScanned}
use Rattle.scenario_text.proofs.pairs.scan_pairs.Given as goal

abbrev pub invariant-loop-rest : goal.invariant-loop-rest
invariant-loop-rest l = IsScanned (map (λ n. n.items) l.names.keys) l.least l.text l.rest l.scan

abbrev pub decreases-loop-rest : goal.decreases-loop-rest
decreases-loop-rest l = length l.rest
