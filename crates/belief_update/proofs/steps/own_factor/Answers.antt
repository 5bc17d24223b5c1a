use Rattle.std.proofs.Common.{◌∙◌, sym, refl}
use Rattle.std.proofs.lemmas.Bool.{eq-eqb, ne_eqb}
use Rattle.sweep_table.specs.LookParts.{factor_in}
use Rattle.belief_update.proofs.steps.own_factor.Goals as goal

pub returns-then-c-from : goal.returns-then-c-from
unfolding factor_in
returns-then-c-from c = rw (eq-eqb c.args.a c.args.c (sym (c.if-c-from.true ∙ c.from.ensures))) refl

pub returns-else-c-from : goal.returns-else-c-from
unfolding factor_in
returns-else-c-from c = rw (ne_eqb c.args.a c.args.c (λ same. c.if-c-from.false (sym same ∙ sym c.from.ensures))) refl
