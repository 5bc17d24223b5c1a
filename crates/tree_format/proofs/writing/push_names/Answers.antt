use Rattle.exact_parts.proofs.AppendLemmas.{at_refusal}
use Rattle.exact_parts.proofs.Beginnings.{begins_after}
use Rattle.tree_format.proofs.writing.push_names.Goals as goal

pub returns-in_err-push_field-clause-err : goal.returns-in_err-push_field-clause-err
returns-in_err-push_field-clause-err c = at_refusal _ _ (begins_after _ _ _ _ c.loop-q.invariant c.in_err-push_field.ensures.err)
