use Rattle.std.proofs.Common.{◌<◌, ◌↔◌, drop}
use Rattle.search_model.specs.Legal.{Follows}
use Rattle.search_model.proofs.scenario.Scenario.is_legal.Given as goal

abbrev pub invariant-loop-c : goal.invariant-loop-c
invariant-loop-c l = record {
  position : l.last < l.self.positions;
  rest : Follows l.self.moves l.self.start l.prefix ↔ Follows l.self.moves l.last (drop l.c-index l.prefix);
}
