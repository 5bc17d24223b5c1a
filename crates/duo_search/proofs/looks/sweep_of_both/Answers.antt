use Rattle.std.proofs.Common.{◌≡◌, ◌*◌, ◌∙◌, List, sym, ap, subst}
use Rattle.std.proofs.lemmas.List.{length-map}
use Rattle.period_rows.specs.declared.part.CellPart.{CellPart}
use Rattle.searcher_maps.specs.Periods.{rows_by_period, AreLookRows}
use Rattle.duo_search.proofs.PairLooks.{rows_right, looks_made}
use Rattle.duo_search.proofs.looks.sweep_of_both.Goals as goal

pub looks_by_period-requires-clause-rows : goal.looks_by_period-requires-clause-rows
looks_by_period-requires-clause-rows c =
    let p = c.args.sc.now in
    let parts : c.denominator-denominator.result ≡ p.sweep.denominator = c.denominator-denominator.ensures.value ∙ ap (λ s. s.denominator) c.sweep.ensures.value in
    let R : List (List (List CellPart)) → Type 0 = λ rows. AreLookRows (p.sweep.denominator * p.sweep.denominator) p.cells rows in
    let right : AreLookRows (p.sweep.denominator * p.sweep.denominator) p.cells (rows_by_period c.in_ok-rows.rows.items) = subst R (sym c.in_ok-rows.ensures) (rows_right p c.sweep.ensures.sound c.requires) in
    rw (parts, c.cells.ensures.value) right

pub returns : goal.returns
returns c =
    let p = c.args.sc.now in
    let made = c.looks_by_period.ensures in
    let parts : c.denominator-denominator.result ≡ p.sweep.denominator = c.denominator-denominator.ensures.value ∙ ap (λ s. s.denominator) c.sweep.ensures.value in
    looks_made p c.sweep.ensures.sound c.requires _ c.looks_by_period.result _ _ _ parts c.cells.ensures.value (length-map c.in_ok-rows.rows.items _) c.in_ok-rows.ensures made.size made.cells made.denominator made.rows
