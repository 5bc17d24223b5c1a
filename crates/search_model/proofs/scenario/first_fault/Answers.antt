use Rattle.std.proofs.Common.{◌≡◌, length, sum, refl, ap, arith}
use Rattle.std.proofs.lemmas.Bool.{false≢true}
use Rattle.exact_parts.specs.Width.{Fits}
use Rattle.drift_chain.specs.DriftRows.{drift_cells}
use Rattle.search_model.specs.Names.{AreNames}
use Rattle.search_model.specs.Faults.{WithinLimits, SizesAgree}
use Rattle.search_model.proofs.FaultLemmas.{double_is_first, wide_is_first, double_position_is_first}
use Rattle.search_model.proofs.scenario.first_fault.Goals as goal

pub returns-in-Some-clause-some : goal.returns-in-Some-clause-some
returns-in-Some-clause-some c =
    let s = c.args.parts.now in
    let limits : WithinLimits s = c.if-not-within_limits.ensures.0 refl in
    let sizes : SizesAgree s = c.if-not-sizes_agree.ensures.agree.0 refl in
    let total : sum s.first.items ≡ s.total = omega (arith, c.if-sum_of-from.false, c.sum_of.ensures, c.from.ensures, ap sum c.deref.ensures.value) in
    let found = rw c.deref-2.ensures.value at c.in-Some.ensures.some in
    double_is_first s limits sizes (λ out. omega (arith, out, c.if-parts-cells.false, c.cells.ensures.value)) total c.in-Some.c found.0 found.1

pub returns-then-not-fits-clause-some : goal.returns-then-not-fits-clause-some
returns-then-not-fits-clause-some c =
    let s = c.args.parts.now in
    let limits : WithinLimits s = c.if-not-within_limits.ensures.0 refl in
    let sizes : SizesAgree s = c.if-not-sizes_agree.ensures.agree.0 refl in
    let total : sum s.first.items ≡ s.total = omega (arith, c.if-sum_of-from.false, c.sum_of.ensures, c.from.ensures, ap sum c.deref.ensures.value) in
    let differ = rw c.deref-2.ensures.value at c.in_default.ensures.none in
    let wide : Fits s.total s.drift.denominator s.sweep.denominator s.horizon → ⊥ = rw (← c.denominator-d.ensures.value, ← c.denominator-g.ensures.value) (λ narrow. false≢true (c.if-not-fits.ensures.1 narrow)) in
    wide_is_first s limits sizes (λ out. omega (arith, out, c.if-parts-cells.false, c.cells.ensures.value)) total differ wide

pub returns-in-Some-first_repeated-clause-some : goal.returns-in-Some-first_repeated-clause-some
returns-in-Some-first_repeated-clause-some c =
    let s = c.args.parts.now in
    let limits : WithinLimits s = c.if-not-within_limits.ensures.0 refl in
    let sizes : SizesAgree s = c.if-not-sizes_agree.ensures.agree.0 refl in
    let total : sum s.first.items ≡ s.total = omega (arith, c.if-sum_of-from.false, c.sum_of.ensures, c.from.ensures, ap sum c.deref.ensures.value) in
    let narrow : Fits s.total s.drift.denominator s.sweep.denominator s.horizon = rw (← c.denominator-d.ensures.value, ← c.denominator-g.ensures.value) (c.if-not-fits.ensures.0 refl) in
    let differ = rw c.deref-2.ensures.value at c.in_default.ensures.none in
    let found = rw c.deref-3.ensures.value at c.in-Some-first_repeated.ensures.some in
    double_position_is_first s limits sizes (λ out. omega (arith, out, c.if-parts-cells.false, c.cells.ensures.value)) total differ narrow c.in-Some-first_repeated.p found.0 found.1

pub returns-clause-none : goal.returns-clause-none
returns-clause-none c =
    let s = c.args.parts.now in
    let limits : WithinLimits s = c.if-not-within_limits.ensures.0 refl in
    let sizes : SizesAgree s = c.if-not-sizes_agree.ensures.agree.0 refl in
    let total : sum s.first.items ≡ s.total = omega (arith, c.if-sum_of-from.false, c.sum_of.ensures, c.from.ensures, ap sum c.deref.ensures.value) in
    let narrow : Fits s.total s.drift.denominator s.sweep.denominator s.horizon = rw (← c.denominator-d.ensures.value, ← c.denominator-g.ensures.value) (c.if-not-fits.ensures.0 refl) in
    let names : AreNames (drift_cells s.drift) s.names.items =
    record { count = sizes.names; each = rw c.deref-2.ensures.value at c.in_default.ensures.names; differ = rw c.deref-2.ensures.value at c.in_default.ensures.none } in
    let positions : AreNames (length s.grid) s.positions.items =
    record { count = sizes.position_names; each = rw c.deref-3.ensures.value at c.in_default-first_repeated.ensures.names; differ = rw c.deref-3.ensures.value at c.in_default-first_repeated.ensures.none } in
    record {
      horizon = limits.horizon;
      total = limits.total;
      cells = c.denominator-d.ensures.sound.size;
      positions = c.cells.ensures.sound.size;
      names = names;
      position_names = positions;
      start = omega (arith, c.if-parts-cells.false, c.cells.ensures.value);
      first_length = sizes.first;
      first_total = total;
      grid = c.cells.ensures.sound;
      grid_positions = refl;
      drift = c.denominator-d.ensures.sound;
      drift_cells = refl;
      sweep = c.denominator-g.ensures.sound;
      sweep_positions = sizes.positions;
      sweep_cells = sizes.cells;
      fits = narrow;
    }
