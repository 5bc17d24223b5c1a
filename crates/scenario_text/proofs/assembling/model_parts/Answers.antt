use Rattle.std.proofs.Common.{◌≡◌, ℕ, List, map, length, refl, sym, ◌∙◌, arith, Vec, Global}
use Rattle.std.proofs.lemmas.List.{length-map}
use Rattle.scenario_text.specs.State.{State, state_of}
use Rattle.scenario_text.proofs.Assembled.{no_grid_fault, problem_says}
use Rattle.scenario_text.proofs.assembling.model_parts.Goals as goal

pub taken_grid-requires : goal.taken_grid-requires
taken_grid-requires c = rw c.chances_of.ensures.moves (no_grid_fault (state_of c.args.draft.now) c.requires.sound c.requires.whole)

pub returns-in-Ok : goal.returns-in-Ok
returns-in-Ok c =
    let s : State = state_of c.args.draft.now in
    let f : Vec ℕ Global → List ℕ = λ n. n.items in
    let copied = c.in_ok-copied.ensures in
    let chances = c.in-Ok.ensures in
    let made = rw c.chances_of.ensures.moves at c.taken_grid.ensures.made in
    let long : length (map f c.args.draft.now.names.keys) ≡ length c.args.draft.now.names.keys = length-map c.args.draft.now.names.keys f in
    rw c.joined.ensures (problem_says s c.requires.sound c.requires.whole _ (record {
      names = copied.names;
      position_names = copied.positions;
      cells = refl;
      positions = refl;
      horizon = copied.horizon;
      start = copied.start;
      total = copied.total;
      first_cells = copied.cells ∙ sym long;
      first = λ d lt. copied.first d (omega (arith, lt, long));
      first_total = copied.first_total;
      moves = made;
      grid = c.taken_grid.ensures.sound;
      denominator = chances.denominator;
      parts = chances.parts;
      changes = chances.changes;
      drift = chances.drift;
      looks = chances.looks;
      sweep = chances.sweep;
    }))
