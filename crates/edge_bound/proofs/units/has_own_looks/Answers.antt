use Rattle.std.proofs.Common.{inl, inr, refl, sym, subst, arith}
use Rattle.std.proofs.lemmas.Bool.{cases_eq}
use Rattle.belief_update.specs.Flows.{IsOwn}
use Rattle.edge_bound.proofs.units.has_own_looks.Goals as goal

pub loop-b-preserved : goal.loop-b-preserved
loop-b-preserved c = λ b short.
    elim (cases_eq b c.loop-b.b) [
      | inl same ↦ subst (λ x. IsOwn c.args.sc.now x) (sym same) (c.if-not-is_own.ensures refl)
      | inr apart ↦ c.loop-b.invariant b (omega (arith, short, apart))
    ]
