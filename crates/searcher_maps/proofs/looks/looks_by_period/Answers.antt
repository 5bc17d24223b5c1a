use Rattle.std.proofs.Common.{◌∙◌, refl, sym, ap, subst, List, arith}
use Rattle.std.proofs.lemmas.List.{length-map}
use Rattle.period_rows.specs.declared.part.CellPart.{CellPart}
use Rattle.sweep_table.specs.LookParts.{LookParts, look_row, looks_over, IsSweep}
use Rattle.period_rows.specs.Changes.{HaveRows}
use Rattle.period_rows.specs.Rows.{IsAscending}
use Rattle.searcher_maps.specs.Periods.{rows_by_period}
use Rattle.searcher_maps.proofs.GivenRows.{rows_in, period_at}
use Rattle.searcher_maps.proofs.LookTables.{AreGiven, IsSweep-base, ascending, faultless, made_changes, assembled, same_rows}
use Rattle.searcher_maps.proofs.looks.looks_by_period.Goals as goal

pub of_right_rows-base-requires : goal.of_right_rows-base-requires
of_right_rows-base-requires c =
    let g = c.args.denominator in
    let given = rows_by_period c.args.rows.items in
    let h : AreGiven g c.args.cells given = record { denominator = (c.requires.some, c.requires.few); count = (c.requires.some_cell, c.requires.few_cells); rows = c.requires.rows } in
    let base = period_at c.args.rows.items 0 c.swap_remove.result (omega arith) c.swap_remove.ensures.value in
    subst (λ (rows : List (List CellPart)). IsSweep (looks_over g c.args.cells rows)) base (IsSweep-base g c.args.cells given h)

pub with_right_rows-requires-clause-faultless : goal.with_right_rows-requires-clause-faultless
with_right_rows-requires-clause-faultless c =
    let g = c.args.denominator in
    let given = rows_by_period c.args.rows.items in
    let h : AreGiven g c.args.cells given = record { denominator = (c.requires.some, c.requires.few); count = (c.requires.some_cell, c.requires.few_cells); rows = c.requires.rows } in
    let changed = made_changes g c.args.cells given h c.args.rows.items _ c.index.result.now c.len-positions.result _ refl c.deref.ensures.value c.index.ensures (omega (arith, c.len-positions.ensures)) c.in_ok-changes.ensures in
    let base = period_at c.args.rows.items 0 c.swap_remove.result (omega arith) c.swap_remove.ensures.value in
    faultless g c.args.cells given h _ _ _ c.of_right_rows-base.ensures.value (sym base) changed

pub returns-clause-rows : goal.returns-clause-rows
returns-clause-rows c =
    let g = c.args.denominator in
    let given = rows_by_period c.args.rows.items in
    let h : AreGiven g c.args.cells given = record { denominator = (c.requires.some, c.requires.few); count = (c.requires.some_cell, c.requires.few_cells); rows = c.requires.rows } in
    let changed = made_changes g c.args.cells given h c.args.rows.items _ c.index.result.now c.len-positions.result _ refl c.deref.ensures.value c.index.ensures (omega (arith, c.len-positions.ensures)) c.in_ok-changes.ensures in
    let base = period_at c.args.rows.items 0 c.swap_remove.result (omega arith) c.swap_remove.ensures.value in
    let made = assembled g c.args.cells given h _ _ _ c.of_right_rows-base.ensures.value (sym base) changed in
    let long = length-map c.args.rows.items rows_in in
    let is = c.in_ok-with_right_rows.ensures.kept (subst (HaveRows IsAscending) (sym changed) (ascending g c.args.cells given h)) in
    λ t a some last inside. ap (λ (m : LookParts). look_row m t a) (is ∙ made) ∙ same_rows g c.args.cells given h t a some (omega (arith, last, long)) inside
