use Rattle.std.proofs.Common.{ℕ, ◌≡◌, ◌*◌, List, sym, arith}
use Rattle.search_model.specs.Bounds.{gain_of}
use Rattle.tangent_bound.specs.Gains.{IsMet}
use Rattle.tangent_bound.proofs.Found.{gain_is, gain-le}
use Rattle.tangent_bound.proofs.Sizes.{most_fits}
use Rattle.tangent_bound.proofs.gains.gain.Goals.{After-covered}
use Rattle.tangent_bound.proofs.gains.gain.Goals as goal

-- what is missed, and the share of it that is found, make the gain
found : (c : After-covered) (path : List ℕ) → IsMet c.args.sc.now path c.args.t c.args.without.now c.args.taken.now c.args.backward.now →
    c.from.result * c.covered.result ≡ gain_of c.args.sc.now c.args.rate path c.args.t c.args.a
found c path met =
    rw (c.covered.ensures path met, c.from.ensures, c.denominator.ensures.value, c.sweep.ensures.value)
    (sym (gain_is c.args.sc.now c.sweep.ensures.sound path met.path c.args.t c.requires.first c.requires.last c.args.a c.args.rate))

pub overflow_mul-result : goal.overflow_mul-result
overflow_mul-result c =
    let p = c.args.sc.now in
    let (x, met) = c.requires.met in
    let sound = c.sweep.ensures.sound in
    omega (arith, found c x met, gain-le p sound x met.path c.args.t c.requires.first c.requires.last c.args.a c.args.rate, most_fits p sound 1 (omega arith))

pub returns : goal.returns
returns c = found c
