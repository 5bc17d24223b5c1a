use Rattle.std.proofs.Common.{ℕ, ◌<◌}
use Rattle.search_model.specs.Names.{IsName, IsRepeated, name_in}
use Rattle.search_model.proofs.scenario.first_repeated.Given as goal

abbrev pub invariant-loop-c : goal.invariant-loop-c
invariant-loop-c l = record {
  differ : (d : ℕ) → d < l.c → ¬ IsRepeated l.names d;
  named : (d : ℕ) → d < l.c → IsName (name_in l.names d);
}
