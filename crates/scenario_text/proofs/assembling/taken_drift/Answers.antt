use Rattle.std.proofs.Common.{◌≡◌, List, length, sym, ◌∙◌, arith, Vec, Global}
use Rattle.std.proofs.lemmas.List.{length-map}
use Rattle.period_rows.specs.declared.part.CellPart.{CellPart}
use Rattle.scenario_text.specs.State.{State, state_of}
use Rattle.scenario_text.proofs.Assembled.{drift_limits, no_drift_fault, no_drift_change_fault, some_row, few_rows}
use Rattle.scenario_text.proofs.assembling.taken_drift.Goals as goal

pub drift_of-requires-clause-some_denominator : goal.drift_of-requires-clause-some_denominator
drift_of-requires-clause-some_denominator c = (drift_limits (state_of c.args.draft.now) c.requires.sound c.requires.whole).0

pub drift_of-requires-clause-most_denominator : goal.drift_of-requires-clause-most_denominator
drift_of-requires-clause-most_denominator c = (drift_limits (state_of c.args.draft.now) c.requires.sound c.requires.whole).1

pub drift_of-requires-clause-some_row : goal.drift_of-requires-clause-some_row
drift_of-requires-clause-some_row c =
    let g : Vec CellPart Global → List CellPart = λ row. row.items in
    let some = some_row (state_of c.args.draft.now) c.requires.sound c.requires.whole in
    rw c.replace-rows.ensures.value (omega (arith, some, length-map c.args.draft.now.parts.items g))

pub drift_of-requires-clause-most_rows : goal.drift_of-requires-clause-most_rows
drift_of-requires-clause-most_rows c =
    let g : Vec CellPart Global → List CellPart = λ row. row.items in
    let few = few_rows (state_of c.args.draft.now) c.requires.sound c.requires.whole in
    rw c.replace-rows.ensures.value (omega (arith, few, length-map c.args.draft.now.parts.items g))

pub drift_of-requires-clause-faultless : goal.drift_of-requires-clause-faultless
drift_of-requires-clause-faultless c = rw c.replace-rows.ensures.value (no_drift_fault (state_of c.args.draft.now) c.requires.sound c.requires.whole)

pub drift_of-requires-clause-changes : goal.drift_of-requires-clause-changes
drift_of-requires-clause-changes c =
    let s : State = state_of c.args.draft.now in
    let g : Vec CellPart Global → List CellPart = λ row. row.items in
    let cells : length c.args.draft.now.parts.items ≡ length s.names = sym (length-map c.args.draft.now.parts.items g) ∙ c.requires.sound.parts_length in
    rw (c.replace-rows.ensures.value, c.replace-later.ensures.value, cells) (no_drift_change_fault s c.requires.sound c.requires.whole)
