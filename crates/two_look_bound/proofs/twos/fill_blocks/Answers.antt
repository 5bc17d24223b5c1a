use Rattle.std.proofs.Common.{◌≡◌, ◌∙◌}
use Rattle.two_look_bound.proofs.TwosTable.{blocks_more}
use Rattle.two_look_bound.proofs.twos.fill_blocks.Goals as goal

pub loop-n-preserved : goal.loop-n-preserved
loop-n-preserved c =
    let p = c.args.sc.now in
    let cells : c.from.result ≡ p.cells = c.from.ensures ∙ c.cells.ensures.value in
    let positions : c.from-2.result ≡ p.positions = c.from-2.ensures ∙ c.positions.ensures.value in
    let block = rw (cells, positions) at c.fill_block.ensures.block in
    let earlier = rw (cells, positions) at c.fill_block.ensures.earlier in
    blocks_more p c.loop-n.n c.loop-n.numbers c.fill_block.new.numbers c.loop-n.invariant block earlier
