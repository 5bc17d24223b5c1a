use Rattle.std.proofs.Common.{◌≡◌, ◌≤◌, sum_by, ap, ◌∙◌, arith}
use Rattle.std.proofs.lemmas.List.{take_all}
use Rattle.std.proofs.lemmas.List.Sums.{sum_by_more, sum_by_more_le}
use Rattle.sweep_table.specs.LookParts.{look_row}
use Rattle.search_model.specs.Tracks.{whole_weight}
use Rattle.search_model.proofs.LookRows.{covered_cell}
use Rattle.search_model.proofs.Totals.{whole_weight-fits}
use Rattle.tangent_bound.specs.Gains.{missed_at}
use Rattle.tangent_bound.proofs.Found.{missed_by_look-le}
use Rattle.tangent_bound.proofs.gains.covered_by_row.Goals as goal

pub missed-sum-requires-clause-cell : goal.missed-sum-requires-clause-cell
missed-sum-requires-clause-cell c =
    let p = c.args.sc.now in
    let row : c.parts-entry-items.result.now ≡ look_row p.sweep c.args.t c.args.a = c.parts-entry-items.ensures ∙ c.look-look.ensures.value ∙ ap (λ s. look_row s c.args.t c.args.a) c.sweep.ensures.value in
    rw row (covered_cell p c.sweep.ensures.sound c.args.t c.args.a c.loop-entry.entry-index (record { cell = 0; part = 0 }) (rw row at c.loop-entry-test.true))

pub overflow_add-sum : goal.overflow_add-sum
overflow_add-sum c =
    let p = c.args.sc.now in
    let (x, met) = c.requires.met in
    let entries = c.parts-entry-items.result.now in
    let row : entries ≡ look_row p.sweep c.args.t c.args.a = c.parts-entry-items.ensures ∙ c.look-look.ensures.value ∙ ap (λ s. look_row s c.args.t c.args.a) c.sweep.ensures.value in
    let sound = c.sweep.ensures.sound in
    let next = sum_by_more_le (missed_at p x c.args.t) entries c.loop-entry.entry-index (record { cell = 0; part = 0 }) c.loop-entry-test.true in
    let all : sum_by (missed_at p x c.args.t) entries ≤ whole_weight p = rw row (missed_by_look-le p sound x met.path c.args.t c.requires.first c.requires.last c.args.a) in
    omega (arith, c.loop-entry.invariant x met, c.missed-sum.ensures x met, next, all, whole_weight-fits p sound)

pub loop-entry-preserved : goal.loop-entry-preserved
loop-entry-preserved c = λ path met.
    let next = sum_by_more (missed_at c.args.sc.now path c.args.t) c.parts-entry-items.result.now c.loop-entry.entry-index (record { cell = 0; part = 0 }) c.loop-entry-test.true in
    omega (arith, c.loop-entry.invariant path met, c.missed-sum.ensures path met, next)

pub returns : goal.returns
returns c = λ path met.
    let p = c.args.sc.now in
    let row : c.parts-entry-items.result.now ≡ look_row p.sweep c.args.t c.args.a = c.parts-entry-items.ensures ∙ c.look-look.ensures.value ∙ ap (λ s. look_row s c.args.t c.args.a) c.sweep.ensures.value in
    c.loop-entry.invariant path met ∙ ap (sum_by (missed_at p path c.args.t)) (take_all c.loop-entry.entry-index c.parts-entry-items.result.now c.loop-entry-test.false ∙ row)
