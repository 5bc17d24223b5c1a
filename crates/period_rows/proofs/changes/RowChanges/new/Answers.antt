use Rattle.std.proofs.Common.{rules, ◌≡◌, ◌∙◌, map}
use Rattle.std.specs.List.{AllZip}
use Rattle.std.proofs.lemmas.List.{with_items_is}
use Rattle.period_rows.specs.Changes.{change_of, IsSameChange}
use Rattle.period_rows.proofs.ChangeFaults.{HasRowFault-same, IsRowRefusal-same, no_row_fault}
use Rattle.period_rows.proofs.changes.RowChanges.new.Goals as goal

pub returns-in_err-index-clause-refusal : goal.returns-in_err-index-clause-refusal
returns-in_err-index-clause-refusal g c =
    let stored : c.deref.result.now ≡ c.sort_changes.new.changes = c.deref.ensures.value ∙ with_items_is c.args.list c.sort_changes.new.changes (c.sort_changes.auto.changes ∙ c.deref_mut.ensures.len) in
    let same : AllZip IsSameChange (map change_of c.args.list.items) (map change_of c.deref.result.now) = rw (← c.deref_mut.ensures.value, stored) c.sort_changes.ensures.same in
    let refusal = IsRowRefusal-same (g.T.RowTest.wrong c.args.test.now) c.requires.any_order c.args.last c.args.owners _ _ same c.in_err-index.field-0.0 c.in_err-index.ensures.refusal in
    search rules

pub returns-clause-faultless : goal.returns-clause-faultless
returns-clause-faultless g c = λ _ fault has.
    let stored : c.deref.result.now ≡ c.sort_changes.new.changes = c.deref.ensures.value ∙ with_items_is c.args.list c.sort_changes.new.changes (c.sort_changes.auto.changes ∙ c.deref_mut.ensures.len) in
    let same : AllZip IsSameChange (map change_of c.args.list.items) (map change_of c.deref.result.now) = rw (← c.deref_mut.ensures.value, stored) c.sort_changes.ensures.same in
    no_row_fault (g.T.RowTest.right c.args.test.now) (g.T.RowTest.wrong c.args.test.now) c.requires.apart c.args.last c.args.owners (map change_of c.deref.result.now)
    c.in_ok-index.ensures.changes c.in_ok-index.ensures.right fault
    (HasRowFault-same (g.T.RowTest.wrong c.args.test.now) c.requires.any_order c.args.last c.args.owners (map change_of c.args.list.items) (map change_of c.deref.result.now) same fault has)
