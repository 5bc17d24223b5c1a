use Rattle.std.proofs.Common.{sym, subst, ◌∙◌, arith}
use Rattle.std.specs.Prelude.{Contains}
use Rattle.std.proofs.lemmas.Bool.{false≢true}
use Rattle.search_model.proofs.NameLemmas.{below_more}
use Rattle.residual_plan.specs.Forced.{forced_name}
use Rattle.residual_plan.proofs.naming.is_name_taken.Goals as goal

pub loop-i-preserved : goal.loop-i-preserved
loop-i-preserved c =
    let names = c.args.sc.now.position_names in
    below_more (λ k. ¬ Contains names (forced_name k)) c.loop-i.i c.loop-i.invariant (λ there.
    false≢true (c.if-is_position.ensures.1 (subst (Contains names) (sym (c.bytes.ensures.value ∙ c.forced_name.ensures)) there)))

pub returns : goal.returns
returns c = (
  (λ bad. absurd (false≢true bad)),
  λ taken. absurd (c.loop-i.invariant taken.0 (omega (arith, taken.1, c.loop-i-test.false, c.new_positions-i-end.ensures.value)) taken.2),
)
