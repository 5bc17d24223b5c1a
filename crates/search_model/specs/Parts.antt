-- The problem that parts make.
use Rattle.std.specs.Prelude.{length}
use Rattle.drift_chain.specs.DriftRows.{drift_cells}
use Rattle.search_model.specs.declared.scenario.Parts.{Parts}
use Rattle.search_model.specs.Problem.{Problem}

abbrev pub problem_of : Parts → Problem
problem_of s = record {
  names = s.names.items;
  position_names = s.positions.items;
  cells = drift_cells s.drift;
  positions = length s.grid;
  horizon = s.horizon;
  start = s.start;
  total = s.total;
  first = s.first.items;
  moves = s.grid;
  drift = s.drift;
  sweep = s.sweep;
}
