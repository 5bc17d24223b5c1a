use Rattle.std.proofs.Common.{ℕ, ◌≡◌, ◌+◌, ◌*◌, sum_by, ap, sym, refl, ◌∙◌, arith}
use Rattle.std.specs.List.{range_with_len}
use Rattle.list_laws.proofs.Sums.{sum_by-range_more}
use Rattle.search_model.proofs.After.{missed_weight-by_first}
use Rattle.search_model.proofs.PlainSteps.{first_term, first_fits}
use Rattle.search_model.proofs.plain_value.missed.Goals as goal

pub overflow_mul-sum : goal.overflow_mul-sum
overflow_mul-sum c =
    let p = c.args.sc.now in
    let fits = first_fits p c.cells-c-end.ensures.sound c.args.looks.now c.loop-c.c (omega (arith, c.loop-c-test.true, c.cells-c-end.ensures.value)) in
    rw (c.from.ensures, c.first.ensures, c.from-in-loop-c.ensures, c.look_factor.ensures, c.after.ensures, c.later.ensures) (omega (arith, fits))

pub overflow_add-sum : goal.overflow_add-sum
overflow_add-sum c =
    let p = c.args.sc.now in
    let fits = first_fits p c.cells-c-end.ensures.sound c.args.looks.now c.loop-c.c (omega (arith, c.loop-c-test.true, c.cells-c-end.ensures.value)) in
    rw (c.loop-c.invariant, c.from.ensures, c.first.ensures, c.from-in-loop-c.ensures, c.look_factor.ensures, c.after.ensures, c.later.ensures) (omega (arith, fits))

pub loop-c-preserved : goal.loop-c-preserved
loop-c-preserved c =
    let p = c.args.sc.now in
    let q = c.args.looks.now in
    let here : c.from.result * c.from-in-loop-c.result * c.after.result ≡ first_term p q c.loop-c.c =
    rw (c.from.ensures, c.first.ensures, c.from-in-loop-c.ensures, c.look_factor.ensures, c.after.ensures, c.later.ensures) refl in
    rw here (ap (λ (n : ℕ). n + first_term p q c.loop-c.c) c.loop-c.invariant ∙ sym (sum_by-range_more (first_term p q) c.loop-c.c))

pub returns : goal.returns
returns c =
    let p = c.args.sc.now in
    let q = c.args.looks.now in
    let all : c.loop-c.c ≡ p.cells = omega (arith, c.loop-c-test.false, c.loop-c.auto.c-end, c.cells-c-end.ensures.value) in
    c.loop-c.invariant ∙ ap (λ (n : ℕ). sum_by (first_term p q) (range_with_len 0 n)) all
    ∙ sym (missed_weight-by_first p q (omega (arith, c.cells-c-end.ensures.sound.horizon)))
