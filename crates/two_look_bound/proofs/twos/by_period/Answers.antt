use Rattle.std.proofs.Common.{◌≡◌, ◌-◌, ◌∙◌, arith}
use Rattle.two_look_bound.specs.Rooms.{HasTwosBlocks}
use Rattle.two_look_bound.proofs.TwosTable.{twos_by_period}
use Rattle.two_look_bound.proofs.twos.by_period.Goals as goal

pub returns : goal.returns
returns c =
    let p = c.args.sc.now in
    let periods : c.saturating_sub.result ≡ p.horizon - 2 = omega (arith, c.saturating_sub.ensures, c.horizon.ensures.value) in
    let blocks : HasTwosBlocks p (p.horizon - 2) c.in_ok-blocks_of.field-0.items = rw periods at c.in_ok-blocks_of.ensures in
    let positions : c.from.result ≡ p.positions = c.from.ensures ∙ c.positions.ensures.value in
    let cells : c.from-2.result ≡ p.cells = c.from-2.ensures ∙ c.cells.ensures.value in
    let width : c.from-3.result ≡ p.positions = c.from-3.ensures ∙ c.positions-2.ensures.value in
    rw (positions, cells, width) (twos_by_period p c.in_ok-blocks_of.field-0.items blocks)
