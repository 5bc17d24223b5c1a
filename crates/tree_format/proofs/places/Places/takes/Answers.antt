use Rattle.std.proofs.Common.{◌≡◌, sym, ◌∙◌}
use Rattle.std.proofs.lemmas.Slice.Eq.{bytes_eq-Decides}
use Rattle.tree_format.proofs.Placements.{taken}
use Rattle.tree_format.proofs.places.Places.takes.Goals as goal

pub returns-in-Some-clause-yes : goal.returns-in-Some-clause-yes
returns-in-Some-clause-yes c = λ _.
    let cells = (bytes_eq-Decides c.cells.result.now c.cells-in-Some-1.result.now).0 (sym c.if-eq.ensures) in
    let same : c.in-Some.prefix ≡ c.args.node.now.prefix = sym c.cells.ensures.value ∙ cells ∙ c.cells-in-Some-1.ensures.value in
    taken c.args.sc.now c.args.self.now c.go_on_behind.new.self c.in-Some.prefix c.args.node.now (sym c.first.ensures ∙ c.in-Some.is) same c.go_on_behind.ensures
