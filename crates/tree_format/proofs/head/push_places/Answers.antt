use Rattle.std.proofs.Common.{map, codes}
use Rattle.exact_parts.proofs.AppendLemmas.{at_refusal}
use Rattle.exact_parts.proofs.Beginnings.{begins_same, begins_after}
use Rattle.text_rows.proofs.RowSteps.{row_ended}
use Rattle.search_model.specs.Problem.{position_name}
use Rattle.tree_format.proofs.head.push_places.Goals as goal

pub returns-clause-ok : goal.returns-clause-ok
returns-clause-ok c =
    row_ended _ _ _ _ (codes "path") (map (position_name c.args.sc.now) c.args.path.now) c.in_ok-extend_from_slice.ensures.items (rw c.cells.ensures.value at c.in_ok-push_names.ensures.ok) c.in_ok-push.ensures.items

pub returns-in_err-extend_from_slice-clause-err : goal.returns-in_err-extend_from_slice-clause-err
returns-in_err-extend_from_slice-clause-err c = at_refusal _ _ (begins_same _ _ c.in_err-extend_from_slice.ensures.items)

pub returns-in_err-push_names-clause-err : goal.returns-in_err-push_names-clause-err
returns-in_err-push_names-clause-err c = at_refusal _ _ (begins_after _ _ _ _ c.in_ok-extend_from_slice.ensures.items c.in_err-push_names.ensures.err)

pub returns-in_err-push-clause-err : goal.returns-in_err-push-clause-err
returns-in_err-push-clause-err c = at_refusal _ _ (begins_after _ _ _ _ c.in_ok-extend_from_slice.ensures.items (begins_after _ _ _ _ c.in_ok-push_names.ensures.ok (begins_same _ _ c.in_err-push.ensures.items)))
