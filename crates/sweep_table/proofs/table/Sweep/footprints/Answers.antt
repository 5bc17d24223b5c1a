use Rattle.std.proofs.Common.{refl, ap, ◌∙◌, map, Ok}
use Rattle.std.proofs.lemmas.List.{with_items_is}
use Rattle.sweep_table.specs.LookParts.{looks_over}
use Rattle.sweep_table.specs.Faults.{IsFirstFault}
use Rattle.sweep_table.proofs.NamedFaults.{faultless, no_first_fault}
use Rattle.sweep_table.proofs.Rows.{same_sweep}
use Rattle.sweep_table.proofs.table.Sweep.footprints.Goals as goal

pub returns-in_err-put_in_order-clause-kept : goal.returns-in_err-put_in_order-clause-kept
returns-in_err-put_in_order-clause-kept c = λ sweep.
    let first : IsFirstFault c.args.denominator c.args.cells (map (λ row. row.items) c.args.rows.items) c.in_err-put_in_order.field-0.0 = rw (← c.deref_mut.ensures.value) c.in_err-put_in_order.ensures.fault in
    absurd (no_first_fault _ _ _ sweep _ first)

pub returns-clause-faultless : goal.returns-clause-faultless
returns-clause-faultless c =
    let same = c.put_in_order.ensures.same in
    let made = c.in_ok-put_in_order.ensures.sweep in
    (λ _ fault has. faultless _ _ _ _ same made fault (rw c.deref_mut.ensures.value has), λ _. refl)

pub returns-clause-kept : goal.returns-clause-kept
returns-clause-kept c = λ sweep.
    let same = c.put_in_order.ensures.same in
    let made = c.in_ok-put_in_order.ensures.sweep in
    let is = same_sweep c.args.denominator c.args.cells _ _ (rw c.deref_mut.ensures.value sweep) made same in
    let new = c.put_in_order.new.rows in
    let stored = with_items_is c.args.rows new (c.put_in_order.auto.rows ∙ c.deref_mut.ensures.len) in
    ap (λ rows. Ok (looks_over c.args.denominator c.args.cells rows)) (ap (map (λ row. row.items)) stored ∙ is ∙ ap (map (λ row. row.items)) c.deref_mut.ensures.value)
