use Rattle.std.proofs.Common.{◌≡◌, ◌==◌, map, drop, length}
use Rattle.std.specs.List.{list_any}
use Rattle.tree_format.proofs.lines.has_empty.Given as goal

abbrev pub invariant-loop-f : goal.invariant-loop-f
invariant-loop-f l = list_any (λ f. length f == 0) (map (λ f. f.now) (drop l.f-index l.fields)) ≡ list_any (λ f. length f == 0) (map (λ f. f.now) l.fields)
