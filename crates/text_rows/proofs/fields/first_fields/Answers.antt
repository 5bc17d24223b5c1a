use Rattle.std.proofs.Common.{◌≡◌, map, length, Bor, List, ℕ, arith, sym, ◌∙◌}
use Rattle.std.proofs.lemmas.List.{length-map}
use Rattle.std.proofs.lemmas.Bool.{eqb-true}
use Rattle.text_rows.proofs.FieldCuts.{first_all, first_most, mapped_some}
use Rattle.text_rows.proofs.fields.first_fields.Goals.{then-loop-fields-test+else-len-most, else-loop-fields-test}
use Rattle.text_rows.proofs.fields.first_fields.Goals as goal

pub returns-clause-value : goal.returns-clause-value
returns-clause-value c =
    let long : length (map (λ (f : Bor (List ℕ)). f.now) c.loop-fields.fields.items) ≡ length c.loop-fields.fields.items = length-map c.loop-fields.fields.items (λ f. f.now) in
    elim c.loop-fields-test.branch [
      | then-loop-fields-test+else-len-most w ↦ first_most _ _ _ c.args.most c.loop-fields.invariant.0 (omega (arith, c.loop-fields.invariant.2)) (omega (arith, w.if-len-most.false, w.len.ensures))
      | else-loop-fields-test w ↦ first_all _ c.loop-fields.rest.now _ c.args.most c.loop-fields.invariant.0 (omega (arith, c.loop-fields.invariant.2)) (eqb-true _ _ (sym c.is_empty.ensures ∙ w.loop-fields-test.false))
    ]

pub returns-clause-some : goal.returns-clause-some
returns-clause-some c = mapped_some c.loop-fields.fields.items _ c.args.line.now c.loop-fields.invariant.0
