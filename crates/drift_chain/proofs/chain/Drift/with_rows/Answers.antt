use Rattle.std.proofs.Common.{◌≡◌, ◌∙◌, Ok, Err, length, map, ap, sym, subst, inl, inr, rules}
use Rattle.std.proofs.Math.ListN.{length-map}
use Rattle.period_rows.specs.Changes.{change_of, AreChanges, HaveRows}
use Rattle.period_rows.proofs.SameRows.{same_changes}
use Rattle.drift_chain.specs.DriftRows.{DriftRows, drift_cells, drift_with, IsDriftRow}
use Rattle.drift_chain.specs.ChangeFaults.{HasChangeFault, IsRefusal}
use Rattle.drift_chain.specs.Changes.{drift_by}
use Rattle.drift_chain.proofs.ChangeFaults.{refused_for_memory}
use Rattle.drift_chain.proofs.DriftChanges.{changes_right, ascending_rows, IsDrift-from_changes}
use Rattle.drift_chain.proofs.chain.Drift.with_rows.Goals as goal

pub returns-in_err-changes-clause-kept : goal.returns-in_err-changes-clause-kept
returns-in_err-changes-clause-kept c = λ h.
    let inside = c.self.inside in
    let given = map change_of c.args.changes.items in
    let size : c.len.result ≡ length (map (λ row. row.items) inside.rows.items) = rw (length-map inside.rows.items (λ row. row.items)) (search rules) in
    let here : IsRefusal inside.denominator (length (map (λ row. row.items) inside.rows.items)) given c.in_err-changes.field-0.0 = rw (← size) c.in_err-changes.ensures.fault in
    let refusal = subst (λ (d : DriftRows). IsRefusal d.denominator (drift_cells d) given c.in_err-changes.field-0.0) c.self.view_is here in
    let result : c.from_residual.result ≡ Err c.in_err-changes.field-0.0 = search rules in
    inr (result ∙ ap Err (refused_for_memory c.args.self.denominator (drift_cells c.args.self) given c.in_err-changes.field-0.0 h.changes (changes_right (drift_with c.args.self given) h) refusal))

pub invariant_of-result : goal.invariant_of-result
invariant_of-result c =
    let inside = c.self.inside in
    let rows = map (λ row. row.items) inside.rows.items in
    let plain = ap (λ (d : DriftRows). d.changes) c.self.view_is ∙ c.requires in
    let size : c.len.result ≡ length rows = rw (length-map inside.rows.items (λ row. row.items)) (search rules) in
    let made = c.in_ok-changes.changes in
    let are : AreChanges 31 (length rows) made = rw (← size) c.in_ok-changes.ensures.changes in
    let right : HaveRows (IsDriftRow inside.denominator (length rows)) made = rw (← size) c.in_ok-changes.ensures.right in
    IsDrift-from_changes (drift_by inside.denominator rows inside.changes) made c.self.invariant plain are right

pub returns-clause-sound : goal.returns-clause-sound
returns-clause-sound c =
    let inside = c.self.inside in
    let rows = map (λ row. row.items) inside.rows.items in
    let plain = ap (λ (d : DriftRows). d.changes) c.self.view_is ∙ c.requires in
    let size : c.len.result ≡ length rows = rw (length-map inside.rows.items (λ row. row.items)) (search rules) in
    let made = c.in_ok-changes.changes in
    let are : AreChanges 31 (length rows) made = rw (← size) c.in_ok-changes.ensures.changes in
    let right : HaveRows (IsDriftRow inside.denominator (length rows)) made = rw (← size) c.in_ok-changes.ensures.right in
    IsDrift-from_changes (drift_by inside.denominator rows inside.changes) made c.self.invariant plain are right

pub returns-clause-faultless : goal.returns-clause-faultless
returns-clause-faultless c = λ _ fault has.
    let inside = c.self.inside in
    let given = map change_of c.args.changes.items in
    let rows = map (λ row. row.items) inside.rows.items in
    let size : c.len.result ≡ length rows = rw (length-map inside.rows.items (λ row. row.items)) (search rules) in
    let here : HasChangeFault inside.denominator (length rows) given fault = subst (λ (d : DriftRows). HasChangeFault d.denominator (drift_cells d) given fault) (sym c.self.view_is) has in
    c.in_ok-changes.ensures.faultless (search rules) fault (rw size here)

pub returns-clause-kept : goal.returns-clause-kept
returns-clause-kept c = λ h.
    let given = map change_of c.args.changes.items in
    let made = c.in_ok-changes.changes in
    let is = same_changes given made c.in_ok-changes.ensures.made
    (ascending_rows c.args.self.denominator (drift_cells c.args.self) given (changes_right (drift_with c.args.self given) h)) (ascending_rows _ _ made c.in_ok-changes.ensures.right) in
    inl (ap Ok (ap (λ (d : DriftRows). drift_with d made) c.self.view_is ∙ ap (drift_with c.args.self) is))
