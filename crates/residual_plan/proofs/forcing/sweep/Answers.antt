use Rattle.std.proofs.Common.{◌≡◌, ◌≤◌, ◌<◌, List, length, refl, sym, ap, ◌∙◌, subst, arith}
use Rattle.std.proofs.lemmas.List.{length-map}
use Rattle.period_rows.specs.declared.part.CellPart.{CellPart}
use Rattle.searcher_maps.specs.Periods.{rows_by_period, positions_given, row_given, AreLookRows}
use Rattle.residual_plan.specs.Rows.{forced_looks}
use Rattle.residual_plan.proofs.GivenLooks.{count_periods, count_given, row_is_given, are_look_rows}
use Rattle.residual_plan.proofs.forcing.sweep.Goals as goal

pub looks_by_period-requires-clause-rows : goal.looks_by_period-requires-clause-rows
looks_by_period-requires-clause-rows c =
    let p = c.args.sc.now in
    let flown = c.args.flown.now in
    let denominator = c.denominator.ensures.value ∙ ap (λ s. s.denominator) c.sweep.ensures.value in
    rw (denominator, c.cells.ensures.value) (subst (AreLookRows p.sweep.denominator p.cells) (sym c.in_ok-rows.ensures) (are_look_rows p flown c.cells.ensures.sound c.requires.room))

pub returns-clause-positions : goal.returns-clause-positions
returns-clause-positions c =
    let p = c.args.sc.now in
    let flown = c.args.flown.now in
    c.in_ok-sweep.ensures.size ∙ ap positions_given c.in_ok-rows.ensures ∙ count_given p flown c.cells.ensures.sound.horizon.0

pub returns-clause-looks : goal.returns-clause-looks
returns-clause-looks c t a from to within =
    let p = c.args.sc.now in
    let flown = c.args.flown.now in
    let periods : length (rows_by_period c.in_ok-rows.rows.items) ≡ p.horizon = ap length c.in_ok-rows.ensures ∙ count_periods p flown in
    let count : length (rows_by_period c.in_ok-rows.rows.items) ≡ length c.in_ok-rows.rows.items = rw length-map refl in
    let last : t ≤ length c.in_ok-rows.rows.items = omega (arith, to, periods, count) in
    let given : positions_given (rows_by_period c.in_ok-rows.rows.items) ≡ positions_given (forced_looks p flown) = ap positions_given c.in_ok-rows.ensures in
    let position : a < positions_given (rows_by_period c.in_ok-rows.rows.items) = omega (arith, within, given, count_given p flown c.cells.ensures.sound.horizon.0) in
    c.in_ok-sweep.ensures.rows t a from last position ∙ ap (λ (rows : List (List (List CellPart))). row_given rows t a) c.in_ok-rows.ensures ∙ row_is_given p flown t a from to within
