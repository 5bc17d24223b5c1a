use Rattle.std.proofs.Common.{◌≡◌, ◌<◌, ◌*◌, ◌-◌, ℕ, [], ◌∷◌, slice_index, refl, sym, ◌∙◌, arith, inl, inr, length, subst, get_or-set_other}
use Rattle.std.proofs.lemmas.Grind.{get_or-set_at}
use Rattle.std.proofs.lemmas.Bool.{cases_eq}
use Rattle.sweep_table.specs.LookParts.{factor_in, misses}
use Rattle.belief_update.proofs.TakenSteps.{ahead_fits, part_of_fits}
use Rattle.belief_update.proofs.OwnLooks.{own_factor_here, own_factor_there}
use Rattle.belief_update.proofs.taken.find_own.Goals as goal

pub overflow_mul-found : goal.overflow_mul-found
overflow_mul-found c =
    let p = c.args.sc.now in
    let fits = ahead_fits p c.sweep.ensures.sound c.requires.ahead.0 c.args.ahead.now c.requires.ahead.1 c.args.a c.requires.cell in
    let less = part_of_fits (slice_index c.args.ahead.now.masses c.args.a) p.sweep.denominator c.args.part fits in
    rw (c.at.ensures, c.from.ensures, c.denominator.ensures.value, c.sweep.ensures.value) (omega (arith, less))

pub returns : goal.returns
returns c =
    let p = c.args.sc.now in
    let g = p.sweep.denominator in
    let a = c.args.a in
    let part = c.args.part in
    let zeros = c.clear.new.masses in
    let here = c.from-2.result in
    let value : c.at.result * c.from.result ≡ slice_index c.args.ahead.now.masses a * (g - part) = rw (c.at.ensures, c.from.ensures, c.denominator.ensures.value, c.sweep.ensures.value) refl in
    let there : here < length zeros = omega (arith, c.from-2.ensures, c.clear.auto.masses, c.requires.width, c.requires.cell) in
    record {
      each = λ x lt. elim (cases_eq a x) [
        | inl same ↦
            get_or-set_at zeros here x (c.at.result * c.from.result) 0 (sym (c.from-2.ensures ∙ same)) there ∙ value
            ∙ subst (λ (y : ℕ). slice_index c.args.ahead.now.masses a * (g - part) ≡ slice_index c.args.ahead.now.masses y * (g - factor_in g (misses a part ∷ []) y)) same (rw (own_factor_here g a part) refl)
        | inr apart ↦
            let none : g - g ≡ 0 = omega arith in
            get_or-set_other zeros here x (c.at.result * c.from.result) 0 (λ e. apart (sym c.from-2.ensures ∙ sym e))
            ∙ c.clear.ensures x (omega (arith, lt, c.requires.width))
            ∙ rw (own_factor_there g a part x apart, none) (omega arith)
      ];
    }
