use Rattle.std.proofs.Common.{refl, ap, ◌∙◌, map, Ok}
use Rattle.std.proofs.lemmas.List.{with_items_is}
use Rattle.search_grid.specs.Faults.{IsFirstFault}
use Rattle.search_grid.proofs.NamedFaults.{no_fault-of_grid, HasFault-same}
use Rattle.search_grid.proofs.Grids.{same_grid}
use Rattle.search_grid.proofs.moves.Grid.new.Goals as goal

pub returns-in_err-put_in_order-clause-kept : goal.returns-in_err-put_in_order-clause-kept
returns-in_err-put_in_order-clause-kept c = λ grid.
    let first : IsFirstFault (map (λ row. row.items) c.args.rows.items) c.in_err-put_in_order.field-0.0 = rw (← c.deref_mut.ensures.value) c.in_err-put_in_order.ensures.fault in
    absurd (no_fault-of_grid _ grid _ first.there)

pub returns-clause-faultless : goal.returns-clause-faultless
returns-clause-faultless c =
    let same = c.put_in_order.ensures.same in
    let made = c.in_ok-put_in_order.ensures.grid in
    (λ _ fault has. no_fault-of_grid _ made fault (HasFault-same _ _ same fault (rw c.deref_mut.ensures.value has)), λ _. refl)

pub returns-clause-kept : goal.returns-clause-kept
returns-clause-kept c = λ grid.
    let same = c.put_in_order.ensures.same in
    let made = c.in_ok-put_in_order.ensures.grid in
    let is = same_grid _ _ (rw c.deref_mut.ensures.value grid) made same in
    let new = c.put_in_order.new.rows in
    let stored = with_items_is c.args.rows new (c.put_in_order.auto.rows ∙ c.deref_mut.ensures.len) in
    ap (λ rows. Ok rows) (ap (map (λ row. row.items)) stored ∙ is ∙ ap (map (λ row. row.items)) c.deref_mut.ensures.value)
