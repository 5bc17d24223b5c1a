use Rattle.std.proofs.Common.{◌≡◌, ◌<◌, ◌≤◌, ◌*◌, ◌-◌, ◌∙◌, length, slice_index, slice_index_or, refl, ap, arith}
use Rattle.std.proofs.Math.Nat.{mul-le-mul_left}
use Rattle.std.proofs.lemmas.List.{take_all}
use Rattle.sweep_table.specs.LookParts.{LookParts, IsLookRow, misses}
use Rattle.belief_update.proofs.TakenSteps.{ahead_fits}
use Rattle.belief_update.proofs.LookSteps.{factor_none, factor-step}
use Rattle.belief_update.proofs.taken.find_by_row.Goals as goal

pub loop-entry-init : goal.loop-entry-init
loop-entry-init c k lt =
    let g = c.args.sc.now.sweep.denominator in
    let none : g - g ≡ 0 = omega arith in
    rw (factor_none g k, none, c.clear.ensures k (omega (arith, lt, c.requires.width))) (omega arith)

pub look_from-look-requires-clause-last : goal.look_from-look-requires-clause-last
look_from-look-requires-clause-last c = rw c.period.ensures c.requires.ahead.1.last

pub at-requires : goal.at-requires
at-requires c =
    let right : IsLookRow c.args.sc.now.sweep.denominator c.args.sc.now.cells c.parts-entry-items.result.now = rw c.parts-entry-items.ensures c.look_from-look.ensures.row in
    omega (arith, right.within c.loop-entry.entry-index (misses 0 0) c.loop-entry-test.true, c.requires.ahead.1.cells)

pub bounds-found-from : goal.bounds-found-from
bounds-found-from c =
    let right : IsLookRow c.args.sc.now.sweep.denominator c.args.sc.now.cells c.parts-entry-items.result.now = rw c.parts-entry-items.ensures c.look_from-look.ensures.row in
    omega (arith, right.within c.loop-entry.entry-index (misses 0 0) c.loop-entry-test.true, c.from-in-loop-entry.ensures, c.loop-entry.auto.found, c.clear.auto.masses, c.requires.width)

pub overflow_mul-found : goal.overflow_mul-found
overflow_mul-found c =
    let p = c.args.sc.now in
    let entry = slice_index_or c.parts-entry-items.result.now c.loop-entry.entry-index (misses 0 0) in
    let right : IsLookRow p.sweep.denominator p.cells c.parts-entry-items.result.now = rw c.parts-entry-items.ensures c.look_from-look.ensures.row in
    let whole : c.denominator-whole.result ≡ p.sweep.denominator = rw c.denominator-whole.ensures.value (ap (λ (s : LookParts). s.denominator) c.sweep.ensures.value) in
    let part : c.from.result ≤ p.sweep.denominator = omega (arith, c.from.ensures, whole, right.parts c.loop-entry.entry-index (misses 0 0) c.loop-entry-test.true) in
    let here : entry.cell < p.cells = right.within c.loop-entry.entry-index (misses 0 0) c.loop-entry-test.true in
    let fits = ahead_fits p c.recall_sound.ensures c.requires.ahead.0 c.args.ahead.now c.requires.ahead.1 entry.cell here in
    rw c.at.ensures (omega (arith, mul-le-mul_left (slice_index c.args.ahead.now.masses entry.cell) part, fits))

pub loop-entry-preserved : goal.loop-entry-preserved
loop-entry-preserved c =
    let p = c.args.sc.now in
    let g = p.sweep.denominator in
    let row = c.parts-entry-items.result.now in
    let right : IsLookRow g p.cells row = rw c.parts-entry-items.ensures c.look_from-look.ensures.row in
    let whole : c.denominator-whole.result ≡ g = rw c.denominator-whole.ensures.value (ap (λ (s : LookParts). s.denominator) c.sweep.ensures.value) in
    let part : c.from.result ≡ g - (slice_index_or row c.loop-entry.entry-index (misses 0 0)).part = omega (arith, c.from.ensures, whole) in
    let size : p.cells ≡ length c.loop-entry.found = omega (arith, c.loop-entry.auto.found, c.clear.auto.masses, c.requires.width) in
    rw c.from-in-loop-entry.ensures (
    factor-step g p.cells row c.loop-entry.entry-index (misses 0 0) right c.loop-entry-test.true (λ x y. slice_index c.args.ahead.now.masses x * (g - y)) c.loop-entry.found size
    c.loop-entry.invariant _ (rw (c.at.ensures, part) refl)
    )

pub returns : goal.returns
returns c =
    let row = c.parts-entry-items.result.now in
    record {
      each = λ x lt.
          c.loop-entry.invariant x lt
          ∙ rw (take_all c.loop-entry.entry-index row c.loop-entry-test.false, c.parts-entry-items.ensures, c.look_from-look.ensures.factors x, c.period.ensures) refl;
    }
