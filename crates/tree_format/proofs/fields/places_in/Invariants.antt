use Rattle.std.proofs.Common.{◌≡◌, map, drop, length}
use Rattle.tree_format.specs.Reading.{all_of, place_in}
use Rattle.tree_format.proofs.FieldSteps.{behind}
use Rattle.tree_format.proofs.fields.places_in.Given as goal

abbrev pub invariant-loop-field : goal.invariant-loop-field
invariant-loop-field l = record {
  all : behind l.path (all_of (place_in l.sc) (map (λ f. f.now) (drop l.field-index l.fields))) ≡ all_of (place_in l.sc) (map (λ f. f.now) l.fields);
  long : length l.path ≡ l.field-index;
}
