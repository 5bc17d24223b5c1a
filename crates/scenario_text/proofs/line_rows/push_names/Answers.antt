use Rattle.std.proofs.Common.{◌++◌, ℕ, List, ◌∙◌, ap, map, take_all}
use Rattle.exact_parts.proofs.AppendLemmas.{at_refusal}
use Rattle.exact_parts.proofs.Beginnings.{begins_after}
use Rattle.text_rows.specs.Rows.{spaced}
use Rattle.search_model.specs.Names.{name_in}
use Rattle.scenario_text.proofs.line_rows.push_names.Goals as goal

pub returns-in_err-push_field-clause-err : goal.returns-in_err-push_field-clause-err
returns-in_err-push_field-clause-err c = at_refusal _ _ (begins_after _ _ _ _ c.loop-q.invariant c.in_err-push_field.ensures.err)

pub returns-clause-ok : goal.returns-clause-ok
returns-clause-ok c =
    c.loop-q.invariant ∙ ap (λ (qs : List ℕ). c.args.out.now.items ++ spaced (map (name_in c.args.sc.now.position_names) qs)) (take_all c.loop-q.q-index c.args.positions.now c.loop-q-test.false)
