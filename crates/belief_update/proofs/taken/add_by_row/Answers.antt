use Rattle.std.proofs.Common.{◌≡◌, ◌<◌, ◌≤◌, ◌+◌, ◌*◌, ◌-◌, ◌^◌, ◌∙◌, ℕ, length, slice_index, slice_index_or, refl, arith}
use Rattle.std.proofs.Math.Nat.{le_refl}
use Rattle.std.proofs.lemmas.Nat.{mul-le}
use Rattle.std.proofs.lemmas.List.{take_all}
use Rattle.sweep_table.specs.LookParts.{IsLookRow, factor_in, misses}
use Rattle.belief_update.proofs.LookSteps.{factor_none, found-fits, found-adds}
use Rattle.belief_update.proofs.taken.add_by_row.Goals as goal

pub loop-entry-init : goal.loop-entry-init
loop-entry-init c k lt =
    let g = c.args.sc.now.sweep.denominator in
    let none : g - g ≡ 0 = omega arith in
    rw (factor_none g k, none) (omega arith)

pub look_from-look-requires-clause-last : goal.look_from-look-requires-clause-last
look_from-look-requires-clause-last c = rw c.period.ensures c.requires.belief.1.last

pub at-requires : goal.at-requires
at-requires c =
    let right : IsLookRow c.args.sc.now.sweep.denominator c.args.sc.now.cells c.parts-entry-items.result.now = rw c.parts-entry-items.ensures c.look_from-look.ensures.row in
    omega (arith, right.within c.loop-entry.entry-index (misses 0 0) c.loop-entry-test.true, c.requires.belief.1.cells)

pub bounds-taken-from : goal.bounds-taken-from
bounds-taken-from c =
    let right : IsLookRow c.args.sc.now.sweep.denominator c.args.sc.now.cells c.parts-entry-items.result.now = rw c.parts-entry-items.ensures c.look_from-look.ensures.row in
    omega (arith, right.within c.loop-entry.entry-index (misses 0 0) c.loop-entry-test.true, c.from.ensures, c.loop-entry.auto.taken, c.requires.width)

pub bounds-taken-from-in-loop-entry : goal.bounds-taken-from-in-loop-entry
bounds-taken-from-in-loop-entry c =
    let right : IsLookRow c.args.sc.now.sweep.denominator c.args.sc.now.cells c.parts-entry-items.result.now = rw c.parts-entry-items.ensures c.look_from-look.ensures.row in
    omega (arith, right.within c.loop-entry.entry-index (misses 0 0) c.loop-entry-test.true, c.from.ensures, c.loop-entry.auto.taken, c.requires.width)

pub overflow_mul-taken : goal.overflow_mul-taken
overflow_mul-taken c =
    let p = c.args.sc.now in
    let entry = slice_index_or c.parts-entry-items.result.now c.loop-entry.entry-index (misses 0 0) in
    let right : IsLookRow p.sweep.denominator p.cells c.parts-entry-items.result.now = rw c.parts-entry-items.ensures c.look_from-look.ensures.row in
    let here : entry.cell < p.cells = right.within c.loop-entry.entry-index (misses 0 0) c.loop-entry-test.true in
    let scaled = slice_index c.args.belief.now.masses entry.cell * c.args.scale in
    let more : scaled * 1 ≤ scaled * p.sweep.denominator = mul-le scaled 1 scaled p.sweep.denominator (le_refl scaled) c.recall_sound.ensures.sweep.denominator.0 in
    rw c.at.ensures (omega (arith, c.requires.found entry.cell here, more))

pub overflow_mul-taken-in-loop-entry : goal.overflow_mul-taken-in-loop-entry
overflow_mul-taken-in-loop-entry c =
    let p = c.args.sc.now in
    let g = p.sweep.denominator in
    let row = c.parts-entry-items.result.now in
    let right : IsLookRow g p.cells row = rw c.parts-entry-items.ensures c.look_from-look.ensures.row in
    let mass : ℕ → ℕ = λ x. slice_index c.args.belief.now.masses x * c.args.scale in
    let whole : (x : ℕ) → x < p.cells → slice_index c.args.taken.now x + mass x * (g - factor_in g row x) < 2 ^ 127 = λ x lt.
    rw (c.parts-entry-items.ensures, c.look_from-look.ensures.factors x, c.period.ensures) (c.requires.fits x lt) in
    let fits = found-fits g p.cells row c.loop-entry.entry-index (misses 0 0) right c.loop-entry-test.true c.args.taken.now c.loop-entry.taken mass c.loop-entry.invariant whole in
    rw (c.at.ensures, c.from-found.ensures, c.denominator-whole.ensures.value, c.sweep.ensures.value) (omega (arith, fits))

pub overflow_add-taken : goal.overflow_add-taken
overflow_add-taken c =
    let p = c.args.sc.now in
    let g = p.sweep.denominator in
    let row = c.parts-entry-items.result.now in
    let right : IsLookRow g p.cells row = rw c.parts-entry-items.ensures c.look_from-look.ensures.row in
    let mass : ℕ → ℕ = λ x. slice_index c.args.belief.now.masses x * c.args.scale in
    let whole : (x : ℕ) → x < p.cells → slice_index c.args.taken.now x + mass x * (g - factor_in g row x) < 2 ^ 127 = λ x lt.
    rw (c.parts-entry-items.ensures, c.look_from-look.ensures.factors x, c.period.ensures) (c.requires.fits x lt) in
    let fits = found-fits g p.cells row c.loop-entry.entry-index (misses 0 0) right c.loop-entry-test.true c.args.taken.now c.loop-entry.taken mass c.loop-entry.invariant whole in
    rw (c.from.ensures, c.at.ensures, c.from-found.ensures, c.denominator-whole.ensures.value, c.sweep.ensures.value) (omega (arith, fits))

pub loop-entry-preserved : goal.loop-entry-preserved
loop-entry-preserved c =
    let p = c.args.sc.now in
    let g = p.sweep.denominator in
    let row = c.parts-entry-items.result.now in
    let right : IsLookRow g p.cells row = rw c.parts-entry-items.ensures c.look_from-look.ensures.row in
    let size : p.cells ≡ length c.loop-entry.taken = omega (arith, c.loop-entry.auto.taken, c.requires.width) in
    let mass : ℕ → ℕ = λ x. slice_index c.args.belief.now.masses x * c.args.scale in
    rw (c.from.ensures, c.at.ensures, c.from-found.ensures, c.denominator-whole.ensures.value, c.sweep.ensures.value) (found-adds g p.cells row c.loop-entry.entry-index (misses 0 0) right c.loop-entry-test.true c.args.taken.now c.loop-entry.taken mass c.loop-entry.invariant size)

pub returns : goal.returns
returns c =
    let row = c.parts-entry-items.result.now in
    record {
      each = λ x lt.
          c.loop-entry.invariant x lt
          ∙ rw (take_all c.loop-entry.entry-index row c.loop-entry-test.false, c.parts-entry-items.ensures, c.look_from-look.ensures.factors x, c.period.ensures) refl;
    }
