use Rattle.std.proofs.Common.{◌≡◌, ℕ, [], List, map, length, sym, ap, ◌∙◌, unwrap_or, Option, Vec, Global}
use Rattle.std.specs.Option.{option_map}
use Rattle.std.specs.List.Sorted.{IsPermutation}
use Rattle.std.proofs.lemmas.List.{length-map}
use Rattle.std.proofs.lemmas.List.Elements.{length_all_zip}
use Rattle.period_rows.specs.declared.part.CellPart.{CellPart}
use Rattle.sweep_table.specs.LookParts.{LookParts, cells_of, positions_of}
use Rattle.period_rows.specs.declared.changes.GivenChange.{GivenChange}
use Rattle.scenario_text.specs.State.{State, state_of, positions_in, period_row_of}
use Rattle.scenario_text.specs.Scenarios.{look_parts, look_change_of}
use Rattle.scenario_text.proofs.Assembled.{looks_long, no_look_fault, no_look_change_fault}
use Rattle.scenario_text.proofs.sweeps.sweep_of_rows.Goals as goal

pub base_sweep-sweep-requires-clause-faultless : goal.base_sweep-sweep-requires-clause-faultless
base_sweep-sweep-requires-clause-faultless c =
    let s : State = state_of c.args.draft.now in
    let rows = c.in_ok-rows.ensures ∙ ap (λ (xs : List (Option (Vec CellPart Global))). map (λ row. look_parts (unwrap_or row [])) (map (option_map (λ r. r.items)) xs)) c.deref.ensures.value in
    let f : Vec ℕ Global → List ℕ = λ n. n.items in
    let cells : c.len.result ≡ length s.names = c.len.ensures.len ∙ sym (length-map c.args.draft.now.names.keys f) in
    rw (cells, rows) (no_look_fault s c.requires.sound c.requires.whole c.requires.version)

pub with_right_rows-requires-clause-faultless : goal.with_right_rows-requires-clause-faultless
with_right_rows-requires-clause-faultless c =
    let s : State = state_of c.args.draft.now in
    let rows = c.in_ok-rows.ensures ∙ ap (λ (xs : List (Option (Vec CellPart Global))). map (λ row. look_parts (unwrap_or row [])) (map (option_map (λ r. r.items)) xs)) c.deref.ensures.value in
    let f : Vec ℕ Global → List ℕ = λ n. n.items in
    let base = c.base_sweep-sweep.ensures.base in
    let over : c.base_sweep-sweep.result.denominator ≡ s.look = ap (λ (x : LookParts). x.denominator) base in
    let cells : cells_of c.base_sweep-sweep.result ≡ length s.names = ap (λ (x : LookParts). cells_of x) base ∙ c.len.ensures.len ∙ sym (length-map c.args.draft.now.names.keys f) in
    let positions : positions_of c.base_sweep-sweep.result ≡ length (positions_in s) =
    sym (length_all_zip IsPermutation _ _ c.base_sweep-sweep.ensures.made) ∙ ap (λ (rs : List (List CellPart)). length rs) rows ∙ length-map s.looks (λ row. look_parts (unwrap_or row [])) ∙ looks_long s c.requires.sound c.requires.whole c.requires.version in
    let changes = c.in_ok-changes.ensures ∙ ap (λ (rs : List GivenChange). map look_change_of (map period_row_of rs)) c.deref-2.ensures.value in
    rw (over, cells, positions, changes) (no_look_change_fault s c.requires.sound c.requires.whole)
