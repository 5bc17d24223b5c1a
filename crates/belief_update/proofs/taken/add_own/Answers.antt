use Rattle.std.proofs.Common.{◌≡◌, ◌<◌, ◌≤◌, ◌*◌, ◌+◌, ◌-◌, ℕ, [], ◌∷◌, slice_index, sym, ◌∙◌, arith, inl, inr, length, refl, subst, get_or-set_other}
use Rattle.std.proofs.Math.Nat.{le_refl}
use Rattle.std.proofs.lemmas.Nat.{mul-le}
use Rattle.std.proofs.lemmas.Grind.{get_or-set_at}
use Rattle.std.proofs.lemmas.Bool.{cases_eq}
use Rattle.sweep_table.specs.LookParts.{factor_in, misses}
use Rattle.belief_update.proofs.OwnLooks.{own_factor_here, own_factor_there}
use Rattle.belief_update.proofs.taken.add_own.Goals as goal

pub overflow_mul-taken : goal.overflow_mul-taken
overflow_mul-taken c =
    let g = c.args.sc.now.sweep.denominator in
    let scaled = slice_index c.args.belief.now.masses c.args.a * c.args.scale in
    let more : scaled * 1 ≤ scaled * g = mul-le scaled 1 scaled g (le_refl scaled) c.sweep.ensures.sound.sweep.denominator.0 in
    rw c.at.ensures (omega (arith, c.requires.found, more))

pub overflow_mul-taken-2 : goal.overflow_mul-taken-2
overflow_mul-taken-2 c = rw (c.at.ensures, c.from-found.ensures, c.denominator.ensures.value, c.sweep.ensures.value) (omega (arith, c.requires.fits))

pub overflow_add-taken : goal.overflow_add-taken
overflow_add-taken c =
    rw (c.from.ensures, c.at.ensures, c.from-found.ensures, c.denominator.ensures.value, c.sweep.ensures.value) (omega (arith, c.requires.fits))

pub returns : goal.returns
returns c =
    let p = c.args.sc.now in
    let g = p.sweep.denominator in
    let a = c.args.a in
    let part = c.args.part in
    let old = c.args.taken.now in
    let here = c.from.result in
    let masses = c.args.belief.now.masses in
    let value : c.at.result * c.args.scale * c.from-found.result ≡ slice_index masses a * c.args.scale * (g - part) = rw (c.at.ensures, c.from-found.ensures, c.denominator.ensures.value, c.sweep.ensures.value) refl in
    let there : here < length old = omega (arith, c.from.ensures, c.requires.width, c.requires.cell) in
    let Right : ℕ → Type 0 = λ y. slice_index old here + c.at.result * c.args.scale * c.from-found.result ≡ slice_index old y + slice_index masses y * c.args.scale * (g - factor_in g (misses a part ∷ []) y) in
    let own : Right a = rw (own_factor_here g a part, c.from.ensures, value) refl in
    record {
      each = λ x lt. elim (cases_eq a x) [
        | inl same ↦
            get_or-set_at old here x (slice_index old here + c.at.result * c.args.scale * c.from-found.result) 0 (sym (c.from.ensures ∙ same)) there ∙ subst Right same own
        | inr apart ↦
            let none : g - g ≡ 0 = omega arith in
            get_or-set_other old here x (slice_index old here + c.at.result * c.args.scale * c.from-found.result) 0 (λ e. apart (sym c.from.ensures ∙ sym e))
            ∙ rw (own_factor_there g a part x apart, none) (omega arith)
      ];
    }
