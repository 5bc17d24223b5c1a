use Rattle.std.proofs.Common.{◌≡◌, ◌≤◌, ◌∙◌, arith}
use Rattle.edge_bound.proofs.UnitTable.{units_steady}
use Rattle.edge_bound.proofs.units.Units.steady.Goals as goal

pub returns : goal.returns
returns c =
    let p = c.args.sc.now in
    let positions : c.from.result ≡ p.positions = c.from.ensures ∙ c.positions.ensures.value in
    let some : 2 ≤ p.horizon → 1 ≤ c.min.result = λ two. omega (arith, two, c.min.ensures, c.horizon.ensures.value) in
    rw positions (units_steady p c.requires c.min.result c.in_ok-blocks_of.field-0.items some c.in_ok-blocks_of.ensures)
