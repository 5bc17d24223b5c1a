use Rattle.exchange_bound.proofs.StandIns.{exchange_is_best}
use Rattle.exchange_bound.proofs.stand_in.first_that_stands.Goals as goal

pub returns-in-Some-clause-some : goal.returns-in-Some-clause-some
returns-in-Some-clause-some c =
    let p = c.args.sc.now in
    let q = c.args.prefix.now in
    let left = c.loop-i.invariant.left in
    let (is, same) = c.in-Some.ensures.some in
    (is, exchange_is_best p q c.take_first-candidate.result c.in-Some.found (c.take_first-candidate.ensures.candidate p q left) is same (c.take_first-candidate.ensures.first p q left))

pub returns-in-Some-clause-filled : goal.returns-in-Some-clause-filled
returns-in-Some-clause-filled c q has = c.in-Some.ensures.filled q (c.loop-i.invariant.filled q has)

pub loop-i-preserved : goal.loop-i-preserved
loop-i-preserved c = record {
  left = c.take_first-candidate.ensures.left c.args.sc.now c.args.prefix.now c.loop-i.invariant.left c.in_default.ensures.none;
  made = c.stand_in.ensures.made;
  mean = c.stand_in.ensures.mean;
  along = c.stand_in.ensures.along;
  filled = λ q has. c.stand_in.ensures.filled q (c.loop-i.invariant.filled q has);
}
