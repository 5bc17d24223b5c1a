use Rattle.std.proofs.Common.{[], ◌∷◌}
use Rattle.exact_parts.proofs.AppendLemmas.{stands_first, stands_next, stands_last, at_refusal}
use Rattle.exact_parts.proofs.Beginnings.{begins_same, begins_after}
use Rattle.tree_format.specs.PlanText.{written}
use Rattle.tree_format.specs.RecordParts.{letter_of}
use Rattle.tree_format.proofs.LineTexts.{kind_text}
use Rattle.tree_format.proofs.records.push_record.Goals as goal

pub returns-clause-ok : goal.returns-clause-ok
returns-clause-ok c =
    let whole = stands_first (kind_text (written c.args.prefixes c.args.prefix.now) c.args.kind.now) in
    let begun = stands_next (letter_of c.args.kind.now ∷ []) _ whole (rw c.letter.ensures at c.in_ok-push.ensures.items) in
    let bound = stands_next _ _ begun c.in_ok-push_bound.ensures.ok in
    let prefix = stands_next _ _ bound c.in_ok-push_prefix.ensures.ok in
    let reference = stands_next _ _ prefix c.in_ok-push_reference.ensures.ok in
    stands_last reference c.in_ok-push-2.ensures.items

pub returns-in_err-push-clause-err : goal.returns-in_err-push-clause-err
returns-in_err-push-clause-err c = at_refusal _ _ (begins_same _ _ c.in_err-push.ensures.items)

pub returns-in_err-push_bound-clause-err : goal.returns-in_err-push_bound-clause-err
returns-in_err-push_bound-clause-err c = at_refusal _ _ (begins_after _ _ _ _ c.in_ok-push.ensures.items c.in_err-push_bound.ensures.err)

pub returns-in_err-push_prefix-clause-err : goal.returns-in_err-push_prefix-clause-err
returns-in_err-push_prefix-clause-err c = at_refusal _ _ (begins_after _ _ _ _ c.in_ok-push.ensures.items (begins_after _ _ _ _ c.in_ok-push_bound.ensures.ok c.in_err-push_prefix.ensures.err))

pub returns-in_err-push_reference-clause-err : goal.returns-in_err-push_reference-clause-err
returns-in_err-push_reference-clause-err c = at_refusal _ _ (begins_after _ _ _ _ c.in_ok-push.ensures.items (begins_after _ _ _ _ c.in_ok-push_bound.ensures.ok (begins_after _ _ _ _ c.in_ok-push_prefix.ensures.ok c.in_err-push_reference.ensures.err)))

pub returns-in_err-push-2-clause-err : goal.returns-in_err-push-2-clause-err
returns-in_err-push-2-clause-err c = at_refusal _ _ (begins_after _ _ _ _ c.in_ok-push.ensures.items (begins_after _ _ _ _ c.in_ok-push_bound.ensures.ok (begins_after _ _ _ _ c.in_ok-push_prefix.ensures.ok (begins_after _ _ _ _ c.in_ok-push_reference.ensures.ok (begins_same _ _ c.in_err-push-2.ensures.items)))))
