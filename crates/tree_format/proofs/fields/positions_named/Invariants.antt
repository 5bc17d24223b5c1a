use Rattle.std.proofs.Common.{◌≡◌, map, drop, length}
use Rattle.search_model.specs.Problem.{position_named}
use Rattle.tree_format.specs.Reading.{all_of}
use Rattle.tree_format.proofs.FieldSteps.{behind}
use Rattle.tree_format.proofs.fields.positions_named.Given as goal

abbrev pub invariant-loop-name : goal.invariant-loop-name
invariant-loop-name l = record {
  all : behind l.path (all_of (position_named l.sc) (map (λ f. f.now) (drop l.name-index l.names))) ≡ all_of (position_named l.sc) (map (λ f. f.now) l.names);
  long : length l.path ≡ l.name-index;
}
