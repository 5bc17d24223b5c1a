use Rattle.std.proofs.Common.{◌≡◌, replicate}
use Rattle.scenario_maker.specs.Generator.{state_after, draws_below}
use Rattle.scenario_maker.specs.Made.{counts_of}
use Rattle.scenario_maker.proofs.drawing.draw_first.Given as goal

abbrev pub invariant-loop : goal.invariant-loop
invariant-loop l = record {
  state : l.generator.state ≡ state_after l.counter l.fn.generator.state;
  first : l.first.items ≡ counts_of 25 (draws_below (replicate l.counter 25) l.fn.generator.state);
}
