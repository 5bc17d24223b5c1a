use Rattle.std.proofs.Common.{◌≡◌, ℕ, List, [], get_or, Bor, Some, None, sym, ◌∙◌, arith, length-append}
use Rattle.tree_format.specs.Reading.{place_in}
use Rattle.tree_format.proofs.FieldSteps.{field_taken, field_refused, fields_read}
use Rattle.tree_format.proofs.fields.places_in.Goals as goal

nothing : Bor (List ℕ)
nothing = record { ref_ptr = (0, 0); now = [] }

pub returns-in_err-place_in : goal.returns-in_err-place_in
unfolding nothing
returns-in_err-place_in c =
    let says = place_in c.args.sc.now in
    let none : says (get_or c.args.fields.now c.loop-field.field-index nothing).now ≡ None = sym c.place_in.ensures ∙ c.in_err-place_in.was in
    c.from_residual.ensures ∙ sym (field_refused says c.args.fields.now c.loop-field.field-index nothing c.loop-field.path _ c.loop-field-test.true none c.loop-field.invariant.all)

pub loop-field-preserved : goal.loop-field-preserved
unfolding nothing
loop-field-preserved c =
    let says = place_in c.args.sc.now in
    let here : says (get_or c.args.fields.now c.loop-field.field-index nothing).now ≡ Some c.in_ok-place_in.field-0 = sym c.place_in.ensures ∙ c.in_ok-place_in.was in
    record {
      all = rw c.push.ensures (field_taken says c.args.fields.now c.loop-field.field-index nothing c.loop-field.path _ _ c.loop-field-test.true here c.loop-field.invariant.all);
      long = rw c.push.ensures (simp length-append (omega arith));
    }

pub returns : goal.returns
returns c = fields_read (place_in c.args.sc.now) c.args.fields.now c.loop-field.field-index c.loop-field.path _ c.loop-field-test.false c.loop-field.invariant.all
