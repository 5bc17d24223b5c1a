use Rattle.std.proofs.Common.{◌≡◌, ◌<◌, ◌*◌, ◌∙◌, ℕ, List, length, slice_index, refl, arith, inl, inr, get_or-set_same, get_or-set_other}
use Rattle.std.proofs.Math.Nat.{le_refl}
use Rattle.std.proofs.lemmas.Bool.{cases_eq}
use Rattle.period_rows.specs.declared.part.CellPart.{CellPart}
use Rattle.sweep_table.specs.LookParts.{LookParts, look_row, factor_in, factor_of}
use Rattle.belief_update.proofs.steps.weaken_by_row.Goals as goal

-- the factors of the row in force
factors : (sweep : LookParts) (t a whole c : ℕ) (row : List CellPart) → whole ≡ sweep.denominator → row ≡ look_row sweep t a → factor_in whole row c ≡ factor_of sweep t a c
unfolding factor_of
factors sweep t a whole c row same is = rw (same, is) refl

pub loop-c-init : goal.loop-c-init
loop-c-init c =
    record {
      done = λ k short. absurd (omega arith);
      rest = λ k _. refl;
      place = record {
        ascending = rw (c.parts-row.ensures, c.look-look.ensures.value) (c.look-look.ensures.sound.each c.args.t c.args.a).ascending;
        below = λ k e short. absurd (omega arith);
        others = λ k e _ inside. omega arith;
      };
    }

pub overflow_mul-masses : goal.overflow_mul-masses
overflow_mul-masses c =
    let here : c.loop-c.c < length c.args.masses.now = omega (arith, c.loop-c-test.true, c.cells-c-end.ensures.value, c.requires.cells) in
    let fits = c.requires.fits c.loop-c.c here in
    let row = c.parts-row.ensures ∙ c.look-look.ensures.value in
    let factor = factors c.args.sweep.now c.args.t c.args.a _ c.loop-c.c _ c.denominator-whole.ensures.value row in
    rw (c.loop-c.invariant.rest c.loop-c.c (le_refl c.loop-c.c), c.from.ensures, c.factor_at-factor.ensures, factor) (omega (arith, fits))

pub loop-c-preserved : goal.loop-c-preserved
loop-c-preserved c =
    let now = c.loop-c.masses in
    let row = c.parts-row.ensures ∙ c.look-look.ensures.value in
    let factor = factors c.args.sweep.now c.args.t c.args.a _ c.loop-c.c _ c.denominator-whole.ensures.value row in
    let here : c.loop-c.c < length now = omega (arith, c.loop-c-test.true, c.cells-c-end.ensures.value, c.requires.cells, c.loop-c.auto.masses) in
    record {
      done = λ k short. elim (cases_eq k c.loop-c.c) [
        | inl same ↦ rw (same, get_or-set_same now c.loop-c.c (slice_index now c.loop-c.c * c.from.result) 0 here, c.loop-c.invariant.rest c.loop-c.c (le_refl c.loop-c.c), c.from.ensures, c.factor_at-factor.ensures, factor) refl
        | inr apart ↦ get_or-set_other now c.loop-c.c k _ 0 apart ∙ c.loop-c.invariant.done k (omega (arith, short, apart))
      ];
      rest = λ k later. get_or-set_other now c.loop-c.c k _ 0 (λ same. omega (arith, same, later)) ∙ c.loop-c.invariant.rest k (omega (arith, later));
      place = c.place_after-next.ensures;
    }
