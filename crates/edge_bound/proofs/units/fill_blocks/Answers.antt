use Rattle.std.proofs.Common.{◌≡◌, ◌∙◌}
use Rattle.edge_bound.proofs.UnitTable.{blocks_more}
use Rattle.edge_bound.proofs.units.fill_blocks.Goals as goal

pub loop-n-preserved : goal.loop-n-preserved
loop-n-preserved c =
    let p = c.args.sc.now in
    let cells : c.from.result ≡ p.cells = c.from.ensures ∙ c.cells.ensures.value in
    let positions : c.from-2.result ≡ p.positions = c.from-2.ensures ∙ c.positions.ensures.value in
    let block = rw (cells, positions) at c.fill_block.ensures.block in
    let earlier = rw (cells, positions) at c.fill_block.ensures.earlier in
    blocks_more p c.loop-n.n c.loop-n.units c.fill_block.new.units c.loop-n.invariant block earlier
