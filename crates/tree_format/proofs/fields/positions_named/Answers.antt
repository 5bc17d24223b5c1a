use Rattle.std.proofs.Common.{◌≡◌, ℕ, List, [], get_or, Bor, Some, None, sym, ◌∙◌, arith, length-append}
use Rattle.search_model.specs.Problem.{position_named}
use Rattle.tree_format.proofs.FieldSteps.{field_taken, field_refused, fields_read}
use Rattle.tree_format.proofs.fields.positions_named.Goals as goal

nothing : Bor (List ℕ)
nothing = record { ref_ptr = (0, 0); now = [] }

pub returns-in_err-position_named : goal.returns-in_err-position_named
unfolding nothing
returns-in_err-position_named c =
    let says = position_named c.args.sc.now in
    let none : says (get_or c.args.names.now c.loop-name.name-index nothing).now ≡ None = sym c.position_named.ensures.value ∙ c.in_err-position_named.was in
    c.from_residual.ensures ∙ sym (field_refused says c.args.names.now c.loop-name.name-index nothing c.loop-name.path _ c.loop-name-test.true none c.loop-name.invariant.all)

pub loop-name-preserved : goal.loop-name-preserved
unfolding nothing
loop-name-preserved c =
    let says = position_named c.args.sc.now in
    let here : says (get_or c.args.names.now c.loop-name.name-index nothing).now ≡ Some c.in_ok-position_named.field-0 = sym c.position_named.ensures.value ∙ c.in_ok-position_named.was in
    record {
      all = rw c.push.ensures (field_taken says c.args.names.now c.loop-name.name-index nothing c.loop-name.path _ _ c.loop-name-test.true here c.loop-name.invariant.all);
      long = rw c.push.ensures (simp length-append (omega arith));
    }

pub returns : goal.returns
returns c = fields_read (position_named c.args.sc.now) c.args.names.now c.loop-name.name-index c.loop-name.path _ c.loop-name-test.false c.loop-name.invariant.all
