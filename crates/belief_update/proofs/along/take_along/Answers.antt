use Rattle.std.proofs.Common.{◌≡◌, length, take, arith}
use Rattle.std.proofs.lemmas.List.{length-take-le}
use Rattle.belief_update.proofs.along.take_along.Goals as goal

pub loop-n-init : goal.loop-n-init
loop-n-init c =
    let front : length (take c.args.k c.args.path.now) ≡ c.args.k = length-take-le c.args.k c.args.path.now (omega (arith, c.requires.order, c.requires.inside)) in
    record { room = c.requires.room; period = λ more. absurd (omega (arith, more, front)); taken = λ more. absurd (omega (arith, more, front)) }

pub take_on-requires-clause-onward : goal.take_on-requires-clause-onward
take_on-requires-clause-onward c = c.requires.onward

pub take_on-requires-clause-taken : goal.take_on-requires-clause-taken
take_on-requires-clause-taken c = c.loop-n.invariant

pub loop-n-preserved : goal.loop-n-preserved
loop-n-preserved c = c.take_on.ensures
