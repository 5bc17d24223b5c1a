use Rattle.exact_parts.proofs.Percents.{divided_more}
use Rattle.exact_parts.proofs.percent.thousandths.Goals as goal

pub loop-k-preserved : goal.loop-k-preserved
loop-k-preserved c = divided_more c.args.v c.args.w c.loop-k._k c.loop-k.n c.loop-k.rest c.requires.part c.requires.some c.loop-k.invariant
