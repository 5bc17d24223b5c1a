use Rattle.std.proofs.Common.{◌≡◌, List, length, map, sym, ap, subst, ◌∙◌, Vec, Global}
use Rattle.std.proofs.lemmas.List.{length-map}
use Rattle.std.proofs.lemmas.List.Elements.{length_all_zip}
use Rattle.std.proofs.lemmas.Result.{IfOk-weaker}
use Rattle.list_laws.proofs.Mapped.{map-map}
use Rattle.std.specs.List.{AllZip}
use Rattle.std.specs.List.Sorted.{IsPermutation}
use Rattle.period_rows.specs.declared.part.CellPart.{CellPart}
use Rattle.period_rows.specs.declared.changes.GivenChange.{GivenChange}
use Rattle.period_rows.specs.Changes.{change_of}
use Rattle.drift_chain.specs.DriftRows.{DriftRows, drift_cells, drift_with}
use Rattle.scenario_text.specs.State.{period_row_of}
use Rattle.scenario_text.specs.Scenarios.{drift_change_of}
use Rattle.scenario_text.proofs.drifts.drift_of.Goals as goal

-- the changes are the rows that were read
as_read : (later : List GivenChange) → map drift_change_of (map period_row_of later) ≡ map change_of later
as_read later = map-map drift_change_of period_row_of later

pub with_right_rows-requires-clause-faultless : goal.with_right_rows-requires-clause-faultless
with_right_rows-requires-clause-faultless c =
    let g : Vec CellPart Global → List CellPart = λ row. row.items in
    let cells : drift_cells c.base_drift.result ≡ length c.args.rows.items = sym (length_all_zip IsPermutation _ _ c.base_drift.ensures.made) ∙ length-map c.args.rows.items g in
    rw (c.base_drift.ensures.denominator, cells, ← as_read c.args.later.items) c.requires.changes

pub with_right_rows-requires-clause-steady : goal.with_right_rows-requires-clause-steady
with_right_rows-requires-clause-steady c = c.base_drift.ensures.steady

pub returns-clause-denominator : goal.returns-clause-denominator
returns-clause-denominator c =
    IfOk-weaker c.with_right_rows.result (λ drift. drift ≡ drift_with c.base_drift.result drift.changes) (λ drift. drift.denominator ≡ c.args.denominator) (λ drift is. ap (λ (d : DriftRows). d.denominator) is ∙ c.base_drift.ensures.denominator) c.with_right_rows.ensures.base

pub returns-clause-made : goal.returns-clause-made
returns-clause-made c =
    let g : Vec CellPart Global → List CellPart = λ row. row.items in
    IfOk-weaker c.with_right_rows.result (λ drift. drift ≡ drift_with c.base_drift.result drift.changes) (λ drift. AllZip IsPermutation (map g c.args.rows.items) drift.rows) (λ drift is. subst (AllZip IsPermutation (map g c.args.rows.items)) (sym (ap (λ (d : DriftRows). d.rows) is)) c.base_drift.ensures.made) c.with_right_rows.ensures.base

pub returns-clause-changes : goal.returns-clause-changes
returns-clause-changes c = rw (as_read c.args.later.items) c.with_right_rows.ensures.made
