use Rattle.std.proofs.Common.{◌≡◌, ◌∙◌, arith}
use Rattle.two_look_bound.proofs.TwosTable.{block_more}
use Rattle.two_look_bound.proofs.twos.fill_block.Goals as goal

pub loop-c-preserved : goal.loop-c-preserved
loop-c-preserved c =
    let p = c.args.sc.now in
    let positions : c.from-positions.result ≡ p.positions = c.from-positions.ensures ∙ c.positions.ensures.value in
    let each = rw (c.from.ensures, positions) at c.fill_cell.ensures.each in
    let earlier = rw (c.from.ensures, positions) at c.fill_cell.ensures.earlier in
    record {
      each = block_more p c.args.s c.args.here c.loop-c.c c.loop-c.numbers c.fill_cell.new.numbers c.loop-c.invariant.each each earlier;
      earlier = λ i before. earlier i (omega (arith, before)) ∙ c.loop-c.invariant.earlier i before;
    }
