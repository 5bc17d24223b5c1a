use Rattle.tangent_bound.proofs.OneRate.{rate_told}
use Rattle.tangent_bound.proofs.steps.one_rate.Goals as goal

pub returns : goal.returns
returns c =
    let p = c.args.sc.now in
    let some = rw (c.sweep.ensures.value, c.horizon.ensures.value) at c.one_rate.ensures.some in
    let none = rw (c.sweep.ensures.value, c.horizon.ensures.value) at c.one_rate.ensures.none in
    rate_told p c.sweep.ensures.sound c.one_rate.result some none
