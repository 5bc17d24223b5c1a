use Rattle.std.proofs.Common.{◌≡◌, sum_by, ap, ◌∙◌, arith}
use Rattle.std.proofs.lemmas.List.{take_all}
use Rattle.drift_chain.specs.DriftRows.{row_of}
use Rattle.backward_mass.proofs.RowSteps.{mass_term, sum_fits, sum_is}
use Rattle.backward_mass.proofs.periods.mass_before.Goals as goal

pub overflow_mul-sum : goal.overflow_mul-sum
overflow_mul-sum c =
    let p = c.args.sc.now in
    let sound = c.drift.ensures.sound in
    let row : c.row-entry-items.result.now ≡ row_of p.drift c.args.t c.args.c = c.row-entry-items.ensures.value ∙ ap (λ d. row_of d c.args.t c.args.c) c.drift.ensures.value in
    let (q, path, missed) = c.requires.missed in
    let fits = sum_fits p sound q path c.args.t c.requires.more c.args.missed.now missed c.requires.first c.args.c c.requires.cell c.loop-entry.entry-index (record { cell = 0; part = 0 }) (rw (← row) c.loop-entry-test.true) in
    rw (c.from.ensures, c.from-in-loop-entry.ensures, row) (omega (arith, fits))

pub overflow_add-sum : goal.overflow_add-sum
overflow_add-sum c =
    let p = c.args.sc.now in
    let sound = c.drift.ensures.sound in
    let row : c.row-entry-items.result.now ≡ row_of p.drift c.args.t c.args.c = c.row-entry-items.ensures.value ∙ ap (λ d. row_of d c.args.t c.args.c) c.drift.ensures.value in
    let (q, path, missed) = c.requires.missed in
    let fits = sum_fits p sound q path c.args.t c.requires.more c.args.missed.now missed c.requires.first c.args.c c.requires.cell c.loop-entry.entry-index (record { cell = 0; part = 0 }) (rw (← row) c.loop-entry-test.true) in
    rw (c.loop-entry.invariant, c.from.ensures, c.from-in-loop-entry.ensures, row) (omega (arith, fits))

pub returns : goal.returns
returns c = λ q path missed.
    let p = c.args.sc.now in
    let sound = c.drift.ensures.sound in
    let row : c.row-entry-items.result.now ≡ row_of p.drift c.args.t c.args.c = c.row-entry-items.ensures.value ∙ ap (λ d. row_of d c.args.t c.args.c) c.drift.ensures.value in
    c.loop-entry.invariant
    ∙ ap (sum_by (mass_term c.args.missed.now)) (take_all c.loop-entry.entry-index c.row-entry-items.result.now c.loop-entry-test.false ∙ row)
    ∙ sum_is p sound q path c.args.t c.requires.more c.args.missed.now missed c.args.c c.requires.cell
