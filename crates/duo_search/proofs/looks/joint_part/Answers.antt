use Rattle.std.proofs.Common.{ℕ, ◌≤◌, ◌/◌, ◌%◌, ◌∙◌, ap, arith}
use Rattle.std.proofs.Math.Nat.{mul-le-mul}
use Rattle.sweep_table.specs.LookParts.{factor_of}
use Rattle.sweep_table.proofs.Factors.{factor_of-le}
use Rattle.duo_search.proofs.looks.joint_part.Goals as goal

pub overflow_mul-result : goal.overflow_mul-result
overflow_mul-result c =
    let sweep = c.args.sc.now.sweep in
    let few : (a : ℕ) → factor_of sweep c.args.t a c.args.cell ≤ 1000 = λ a. omega (arith, c.requires.fine, factor_of-le sweep c.sweep.ensures.sound.sweep c.args.t a c.args.cell) in
    let i = c.args.both / c.positions-positions.result in
    let j = c.args.both % c.positions-positions.result in
    let first : c.factor-first.result ≤ 1000 = rw (c.factor-first.ensures.value ∙ ap (λ s. factor_of s c.args.t i c.args.cell) c.sweep.ensures.value) (few i) in
    let second : c.factor-second.result ≤ 1000 = rw (c.factor-second.ensures.value ∙ ap (λ s. factor_of s c.args.t j c.args.cell) c.sweep-2.ensures.value) (few j) in
    omega (arith, mul-le-mul first second)
