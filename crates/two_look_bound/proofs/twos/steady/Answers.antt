use Rattle.std.proofs.Common.{◌≡◌, ◌≤◌, ◌∙◌, arith}
use Rattle.two_look_bound.proofs.TwosTable.{twos_steady}
use Rattle.two_look_bound.proofs.twos.steady.Goals as goal

pub returns : goal.returns
returns c =
    let p = c.args.sc.now in
    let positions : c.from.result ≡ p.positions = c.from.ensures ∙ c.positions.ensures.value in
    let some : 3 ≤ p.horizon → 1 ≤ c.min.result = λ three. omega (arith, three, c.min.ensures, c.saturating_sub.ensures, c.horizon.ensures.value) in
    rw positions (twos_steady p c.requires c.min.result c.in_ok-blocks_of.field-0.items some c.in_ok-blocks_of.ensures)
