use Rattle.std.proofs.Common.{◌≡◌, ◌-◌, ◌∙◌}
use Rattle.edge_bound.specs.Units.{HasBlocks}
use Rattle.edge_bound.proofs.UnitTable.{units_by_period}
use Rattle.edge_bound.proofs.units.Units.by_period.Goals as goal

pub returns : goal.returns
returns c =
    let p = c.args.sc.now in
    let blocks : HasBlocks p (p.horizon - 1) c.in_ok-blocks_of.field-0.items = rw c.horizon.ensures.value at c.in_ok-blocks_of.ensures in
    let positions : c.from.result ≡ p.positions = c.from.ensures ∙ c.positions.ensures.value in
    let cells : c.from-2.result ≡ p.cells = c.from-2.ensures ∙ c.cells.ensures.value in
    let width : c.from-3.result ≡ p.positions = c.from-3.ensures ∙ c.positions-2.ensures.value in
    rw (positions, cells, width) (units_by_period p c.in_ok-blocks_of.field-0.items blocks)
