use Rattle.std.proofs.Common.{refl, ap, ◌∙◌, map, Ok}
use Rattle.std.proofs.lemmas.List.{with_items_is}
use Rattle.drift_chain.specs.DriftRows.{drift_over}
use Rattle.drift_chain.specs.Faults.{IsFirstFault}
use Rattle.drift_chain.proofs.Drifts.{same_drift}
use Rattle.drift_chain.proofs.NamedFaults.{faultless, no_first_fault}
use Rattle.drift_chain.proofs.chain.Drift.new.Goals as goal

pub returns-in_err-put_in_order-clause-kept : goal.returns-in_err-put_in_order-clause-kept
returns-in_err-put_in_order-clause-kept c = λ drift.
    let first : IsFirstFault c.args.denominator (map (λ row. row.items) c.args.rows.items) c.in_err-put_in_order.field-0.0 = rw (← c.deref_mut.ensures.value) c.in_err-put_in_order.ensures.fault in
    absurd (no_first_fault _ _ drift _ first)

pub returns-clause-faultless : goal.returns-clause-faultless
returns-clause-faultless c =
    let same = c.put_in_order.ensures.same in
    let made = c.in_ok-put_in_order.ensures.drift in
    (λ _ fault has. faultless _ _ _ same made fault (rw c.deref_mut.ensures.value has), λ _. refl)

pub returns-clause-kept : goal.returns-clause-kept
returns-clause-kept c = λ drift.
    let same = c.put_in_order.ensures.same in
    let made = c.in_ok-put_in_order.ensures.drift in
    let is = same_drift c.args.denominator _ _ (rw c.deref_mut.ensures.value drift) made same in
    let new = c.put_in_order.new.rows in
    let stored = with_items_is c.args.rows new (c.put_in_order.auto.rows ∙ c.deref_mut.ensures.len) in
    ap (λ rows. Ok (drift_over c.args.denominator rows)) (ap (map (λ row. row.items)) stored ∙ is ∙ ap (map (λ row. row.items)) c.deref_mut.ensures.value)
