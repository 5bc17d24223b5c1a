use Rattle.std.proofs.Common.{◌≡◌, ◌∙◌, ap, arith}
use Rattle.duo_search.proofs.Reasons.{few_moves}
use Rattle.duo_search.proofs.faults.first_fault.Goals as goal

pub returns-then-denominator-gt-FINEST-clause-some : goal.returns-then-denominator-gt-FINEST-clause-some
returns-then-denominator-gt-FINEST-clause-some c =
    let parts : c.denominator.result ≡ c.args.sc.now.sweep.denominator = c.denominator.ensures.value ∙ ap (λ s. s.denominator) c.sweep.ensures.value in
    (omega (arith, c.positions.ensures.value), few_moves c.args.sc.now c.if-has_many_moves.ensures, omega (arith, parts))

pub returns-else-fits_two-clause-some : goal.returns-else-fits_two-clause-some
returns-else-fits_two-clause-some c =
    let parts : c.denominator.result ≡ c.args.sc.now.sweep.denominator = c.denominator.ensures.value ∙ ap (λ s. s.denominator) c.sweep.ensures.value in
    (omega (arith, c.positions.ensures.value), few_moves c.args.sc.now c.if-has_many_moves.ensures, omega (arith, parts), c.if-fits_two.ensures)
