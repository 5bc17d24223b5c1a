use Rattle.std.proofs.Common.{◌+◌, ◌-◌, ◌*◌, ◌^◌, ◌≤◌, arith}
use Rattle.std.proofs.lemmas.Bool.{false≢true}
use Rattle.std.proofs.Math.Nat.{one-le-pow}
use Rattle.exact_parts.proofs.Widths.{le-times}
use Rattle.exact_parts.proofs.width.fits.Goals as goal

pub returns-in-None : goal.returns-in-None
returns-in-None c =
    let looks : 1 ≤ c.args.g ^ (c.args.t + 1) = one-le-pow (c.args.t + 1) c.args.g c.requires.look.0 in
    let more = le-times ((c.args.t + 10) * c.args.a * c.args.d ^ (c.args.t - 1)) (c.args.g ^ (c.args.t + 1)) looks in
    ((λ no. absurd (false≢true no)), λ small. absurd (c.in-None.ensures (omega (arith, more))))
