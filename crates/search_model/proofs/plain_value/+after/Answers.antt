use Rattle.std.proofs.Common.{◌≡◌, ◌+◌, ◌-◌, ◌<◌, sum_by, ap, ◌∙◌, arith, All}
use Rattle.std.proofs.lemmas.List.{take_all}
use Rattle.drift_chain.specs.DriftRows.{row_of}
use Rattle.search_model.proofs.PlainSteps.{entry_term, after_of-end, next_fits, entry_fits, entries_done, later_positions, row_within}
use Rattle.search_model.proofs.plain_value.+after.Goals as goal

pub returns-then-t-horizon : goal.returns-then-t-horizon
returns-then-t-horizon t c = after_of-end c.args.sc.now c.horizon.ensures.sound c.args.t c.args.c c.args.looks.now (c.if-t-horizon.true ∙ c.horizon.ensures.value)

pub after-requires : goal.after-requires
after-requires t c =
    let p = c.args.sc.now in
    let more : c.args.t < p.horizon = omega (arith, c.if-t-horizon.false, c.horizon.ensures.value, c.requires.last) in
    let row : c.row-entry-items.result.now ≡ row_of p.drift c.args.t c.args.c = c.row-entry-items.ensures.value ∙ ap (λ d. row_of d c.args.t c.args.c) c.drift.ensures.value in
    let within : All (λ entry. entry.cell < p.cells) c.row-entry-items.result.now = rw row (row_within p c.horizon.ensures.sound c.args.t c.args.c c.requires.cell) in
    let looks : All (λ b. b < p.positions) c.later.result.now = rw c.later.ensures (later_positions p c.horizon.ensures.sound c.args.looks.now c.requires.looks) in
    (omega (arith, more), (omega arith, (omega (arith, more), (within c.loop-entry.entry-index (record { cell = 0; part = 0 }) c.loop-entry-test.true, looks))))

pub overflow_mul-next : goal.overflow_mul-next
overflow_mul-next t c =
    let p = c.args.sc.now in
    let more : c.args.t < p.horizon = omega (arith, c.if-t-horizon.false, c.horizon.ensures.value, c.requires.last) in
    let row : c.row-entry-items.result.now ≡ row_of p.drift c.args.t c.args.c = c.row-entry-items.ensures.value ∙ ap (λ d. row_of d c.args.t c.args.c) c.drift.ensures.value in
    let within : All (λ entry. entry.cell < p.cells) c.row-entry-items.result.now = rw row (row_within p c.horizon.ensures.sound c.args.t c.args.c c.requires.cell) in
    let fits = next_fits p c.horizon.ensures.sound c.args.t _ more c.requires.first (within c.loop-entry.entry-index (record { cell = 0; part = 0 }) c.loop-entry-test.true) c.args.looks.now c.later.result.now in
    rw (c.from.ensures, c.look_factor-factor.ensures, c.after.ensures) (omega (arith, fits))

pub overflow_mul-sum : goal.overflow_mul-sum
overflow_mul-sum t c =
    let p = c.args.sc.now in
    let more : c.args.t < p.horizon = omega (arith, c.if-t-horizon.false, c.horizon.ensures.value, c.requires.last) in
    let row : c.row-entry-items.result.now ≡ row_of p.drift c.args.t c.args.c = c.row-entry-items.ensures.value ∙ ap (λ d. row_of d c.args.t c.args.c) c.drift.ensures.value in
    let fits = entry_fits p c.horizon.ensures.sound c.args.t c.args.c more c.requires.first c.requires.cell c.args.looks.now c.loop-entry.entry-index (record { cell = 0; part = 0 }) (rw (← row) c.loop-entry-test.true) in
    rw (c.from-in-loop-entry.ensures, c.from.ensures, c.look_factor-factor.ensures, c.after.ensures, c.later.ensures, row) (omega (arith, fits))

pub overflow_add-sum : goal.overflow_add-sum
overflow_add-sum t c =
    let p = c.args.sc.now in
    let more : c.args.t < p.horizon = omega (arith, c.if-t-horizon.false, c.horizon.ensures.value, c.requires.last) in
    let row : c.row-entry-items.result.now ≡ row_of p.drift c.args.t c.args.c = c.row-entry-items.ensures.value ∙ ap (λ d. row_of d c.args.t c.args.c) c.drift.ensures.value in
    let fits = entry_fits p c.horizon.ensures.sound c.args.t c.args.c more c.requires.first c.requires.cell c.args.looks.now c.loop-entry.entry-index (record { cell = 0; part = 0 }) (rw (← row) c.loop-entry-test.true) in
    rw (c.loop-entry.invariant, c.from-in-loop-entry.ensures, c.from.ensures, c.look_factor-factor.ensures, c.after.ensures, c.later.ensures, row) (omega (arith, fits))

pub returns : goal.returns
returns t c =
    let p = c.args.sc.now in
    let more : c.args.t < p.horizon = omega (arith, c.if-t-horizon.false, c.horizon.ensures.value, c.requires.last) in
    let row : c.row-entry-items.result.now ≡ row_of p.drift c.args.t c.args.c = c.row-entry-items.ensures.value ∙ ap (λ d. row_of d c.args.t c.args.c) c.drift.ensures.value in
    let term = entry_term p c.args.t c.args.looks.now (p.horizon - (c.args.t + 1)) in
    c.loop-entry.invariant
    ∙ ap (sum_by term) (take_all c.loop-entry.entry-index c.row-entry-items.result.now c.loop-entry-test.false ∙ row)
    ∙ entries_done p c.horizon.ensures.sound c.args.t c.args.c more c.requires.cell c.args.looks.now
